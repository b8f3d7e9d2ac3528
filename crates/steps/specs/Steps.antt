-- The rule "step": q = p + k, over sets.
use Rattle.std.specs.Prelude.{ℕ, Bool, cond, List, ℤ, pos, negsuc, ◌+ℤ◌, neg_ℤ, Some, None, filter, Option}
use Rattle.windows.specs.Sets.{eq_z, has, between}
use Rattle.rulebook.specs.declared.answer.BookRefusal.{BookRefusal}
use Rattle.rulebook.specs.declared.answer.BookRefusal.TheVariants.{Bound}
use Rattle.rules.specs.Pointwise.{Pointwise}
use Rattle.pairs.specs.Pairs.{pair_rule, pair_asks}

-- the numbers v of s that have a partner v + k in t
abbrev pub partnered : ℤ → List ℤ → List ℤ → List ℤ
partnered k s t = filter (λ v. has t (v +ℤ k)) s

-- step: the number of q is that of p plus k; each window keeps its numbers that have a partner in the other
abbrev pub step_rule : ℤ → ℕ → ℕ → Pointwise
step_rule k = pair_rule (λ s t. partnered k s t) (λ s t. partnered (neg_ℤ k) t s) (λ v w. eq_z w (v +ℤ k))

-- is k a distance that two numbers of sets can have
abbrev pub in_reach : ℤ → Bool
in_reach k = between (negsuc 62) (pos 63) k

-- what the windows are refused for, and then a distance that is out of range
abbrev pub asks_distance : Option BookRefusal → ℤ → Option BookRefusal
asks_distance (Some f) k = Some f
asks_distance None k = cond (in_reach k) None (Some Bound)

-- what the rule with distance k on windows p and q of n is refused for
abbrev pub step_asks : ℕ → ℕ → ℤ → ℕ → Option BookRefusal
step_asks p q k n = asks_distance (pair_asks p q n) k
