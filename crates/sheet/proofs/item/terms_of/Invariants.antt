use Rattle.std.proofs.Common.{◌≡◌, ◌*◌, length, drop, replicate, pos}
use Rattle.sheet.specs.Items.{terms, placed}
use Rattle.sheet.proofs.item.terms_of.Given as goal

-- what is left gives the rest
abbrev pub invariant-loop-n : goal.invariant-loop-n
invariant-loop-n l = (placed l.out l.n (terms (drop (l.n * 5) l.payload)) ≡ placed (replicate 8 (record { window = 0; weight = pos 0 })) 0 (terms l.payload)) × (length l.out ≡ 8)
