-- What settling needs to know of the sets that are windows.
use Rattle.std.proofs.Common.{◌≡◌, ◌≤◌, List, [], length, ℤ, arith}
use Rattle.windows.specs.Sets.{Rising, meet}
use Rattle.windows.specs.Kinds.{Kind, Of, Proper}
use Rattle.windows.proofs.KindLaws.{few, some_of, meet_of}

-- none is empty, each is rising and of bounded size, and two that share a number share such a set
pub record ProperSets (sets : List ℤ → Type 0) : Type 0 where
  pub some : sets [] → ⊥
  pub rising : (s : List ℤ) → sets s → Rising s
  pub few : (s : List ℤ) → sets s → length s ≤ 2000001
  pub meets : (s t : List ℤ) → sets s → sets t → (meet s t ≡ [] → ⊥) → sets (meet s t)

-- so it is with the windows of every kind
pub proper_sets : (k : Kind) → Proper k → (sets : List ℤ → Type 0) → ((s : List ℤ) → (sets s → Of k s) × (Of k s → sets s)) → ProperSets sets
proper_sets k p sets tied =
    record {
      some = λ h. let l = ((tied []).0 h).some in omega arith;
      rising = λ s h. ((tied s).0 h).rising;
      few = λ s h. few k p s ((tied s).0 h);
      meets = λ s t h l n. (tied (meet s t)).1 (meet_of k p s t ((tied s).0 h) ((tied t).0 l) (some_of (meet s t) n));
    }
