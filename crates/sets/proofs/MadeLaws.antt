-- A set that a call makes of a mask.
use Rattle.std.proofs.Common.{◌≡◌, ℕ, List, [], ℤ, Some, None, Option, subst, MatchOption}
use Rattle.windows.specs.Sets.{remove}
use Rattle.windows.specs.Kinds.{Of, Smallest, all_but}
use Rattle.windows.proofs.KindLaws.{smallest_from, but_none}
use Rattle.sets.specs.Masks.{mask_numbers, parts}
use Rattle.sets.specs.declared.set.Set.{Set}
use Rattle.sets.specs.MaskLaws.{parts_proper, some_mask}

pub set_smallest : (o : Option Set) (s : List ℤ) (v : ℤ) → Of parts s → MatchOption o (all_but parts s v ≡ []) (λ w. mask_numbers w.mask ≡ all_but parts s v) → MatchOption o (remove v s ≡ []) (λ w. Smallest parts (remove v s) (mask_numbers w.mask))
set_smallest None s v o e = but_none parts parts_proper s v e
set_smallest (Some w) s v o e = smallest_from parts parts_proper s _ v o (some_mask w.mask w.some.0 w.some.1) e

-- a window made of a mask, as what its numbers are
pub made_of : (m : ℕ) (s : List ℤ) (r : Option Set) → mask_numbers m ≡ s → MatchOption r (mask_numbers m ≡ []) (λ w. mask_numbers w.mask ≡ mask_numbers m) → MatchOption r (s ≡ []) (λ w. mask_numbers w.mask ≡ s)
made_of m s r e c = subst (λ u. MatchOption r (u ≡ []) (λ w. mask_numbers w.mask ≡ u)) e c
