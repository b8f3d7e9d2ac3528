-- Lemmas on rising lists.
use Rattle.std.proofs.Common.{◌≡◌, ℕ, zero, suc, ◌<◌, Bool, true, false, not, ◌&&◌, T, ◌⊎◌, List, [], ◌∷◌, length, ℤ, pos, ◌+ℤ◌, ◌-ℤ◌, ◌≤ℤ◌, ◌<ℤ◌, filter, sym, refl, ap, ◌∙◌, subst, inl, inr, arith}
use lib.Signed.{le_z, lt_z}
use Rattle.std.specs.Int.{int_min, int_max}
use Rattle.std.proofs.lemmas.Int.{ints, clamps}
use Rattle.std.proofs.lemmas.Bool.Decides.{same_from_decides}
use Rattle.windows.specs.Sets.{eq_z, has, In, Within, Above, Rising, up_from, count, range, between, least_on, least_by, greatest_on, greatest_by, least, greatest, hull, meet, remove}

-- ---- tests
pub le_z_tells : (a b : ℤ) → ((le_z a b ≡ true) × (a ≤ℤ b)) ⊎ ((le_z a b ≡ false) × (b <ℤ a))
le_z_tells a b = grind (arith, ints)

pub eq_z_tells : (a b : ℤ) → ((eq_z a b ≡ true) × (a ≡ b)) ⊎ ((eq_z a b ≡ false) × (a ≡ b → ⊥))
unfolding eq_z
eq_z_tells a b = grind (arith, ints)

pub lt_z_tells : (a b : ℤ) → ((lt_z a b ≡ true) × (a <ℤ b)) ⊎ ((lt_z a b ≡ false) × (b ≤ℤ a))
lt_z_tells a b = grind (arith, ints)

pub ruleset tests = (le_z_tells, eq_z_tells)

pub never : {X : Type 0} → ◌≡◌ {A = Bool} false true → X
never e = absurd (subst T (sym e) tt)

pub between_is : (lo hi v : ℤ) → between lo hi v ≡ true → (lo ≤ℤ v) × (v ≤ℤ hi)
between_is lo hi v h = grind (arith, ints, tests)

pub is_between : (lo hi v : ℤ) → lo ≤ℤ v → v ≤ℤ hi → between lo hi v ≡ true
is_between lo hi v h k = grind (arith, ints, tests)

-- v is the first of the numbers, or one of the others
pub in_cons : (x : ℤ) (s : List ℤ) (v : ℤ) → In v (x ∷ s) → (x ≡ v) ⊎ In v s
in_cons x s v i = grind (arith, tests)

pub in_here : (x : ℤ) (s : List ℤ) → In x (x ∷ s)
in_here x s = grind (arith, tests)

pub in_there : (x : ℤ) (s : List ℤ) (v : ℤ) → In v s → In v (x ∷ s)
in_there x s v i = grind (arith, tests)

pub has_above : (x : ℤ) (s : List ℤ) (v : ℤ) → Above x s → In v s → x <ℤ v
has_above x [] v a i = never i
has_above x (y ∷ s) v a i = let ih = has_above y s v a.1 in grind (arith, ints, tests)

-- ---- two rising lists with the same numbers are one list
pub above_lower : (x y : ℤ) (s : List ℤ) → x <ℤ y → Above y s → Above x s
above_lower x y [] h a = tt
above_lower x y (z ∷ s) h a = (omega (arith, ints), a.1)

pub has_not_above : (x : ℤ) (s : List ℤ) (v : ℤ) → Above x s → v ≤ℤ x → has s v ≡ false
has_not_above x s v a h = let ih = has_above x s v a in grind (arith, ints)

rising_tail : (x y : ℤ) (s t : List ℤ) → x ≡ y → Above x s → Above y t → ((v : ℤ) → has (x ∷ s) v ≡ has (y ∷ t) v) → (v : ℤ) → has s v ≡ has t v
rising_tail x y s t e a b same v = let f = has_not_above x s v a in let g = has_not_above y t v b in let h = same v in grind (arith, ints, tests)

same_head : (x y : ℤ) (s t : List ℤ) → Above x s → Above y t → In x (y ∷ t) → In y (x ∷ s) → x ≡ y
same_head x y s t a b i j =
    let p = in_cons y t x i in
    let q = in_cons x s y j in
    let f = has_above x s y a in
    let g = has_above y t x b in
    grind (arith, ints)

pub above_rising : (x : ℤ) (s : List ℤ) → Above x s → Rising s
above_rising x [] a = tt
above_rising x (y ∷ s) a = a.1

pub rising_same : (s t : List ℤ) → Rising s → Rising t → ((v : ℤ) → has s v ≡ has t v) → s ≡ t
rising_same [] [] a b same = refl
rising_same [] (y ∷ t) a b same = never (same y ∙ in_here y t)
rising_same (x ∷ s) [] a b same = never (sym (same x) ∙ in_here x s)
rising_same (x ∷ s) (y ∷ t) a b same =
    let e : x ≡ y = same_head x y s t a b (sym (same x) ∙ in_here x s) (same y ∙ in_here y t) in
    let r : s ≡ t = rising_same s t (above_rising x s a) (above_rising y t b) (rising_tail x y s t e a b same) in
    cc

-- ---- spans
pub has_up_from : (lo : ℤ) (n : ℕ) (v : ℤ) → has (up_from lo n) v ≡ (le_z lo v && lt_z v (lo +ℤ pos n))
has_up_from lo zero v = grind (arith, ints, tests, lt_z_tells)
has_up_from lo (suc n) v = let ih = has_up_from (lo +ℤ pos 1) n v in grind (arith, ints, tests, lt_z_tells)

pub count_is : (lo hi : ℤ) → ((lo ≤ℤ hi) × (pos (count lo hi) ≡ hi +ℤ pos 1 -ℤ lo)) ⊎ ((hi <ℤ lo) × (count lo hi ≡ 0))
unfolding count
count_is lo hi = grind (arith, ints)

pub has_range : (lo hi v : ℤ) → has (range lo hi) v ≡ between lo hi v
unfolding range
has_range lo hi v = let e = has_up_from lo (count lo hi) v in let k = count_is lo hi in grind (arith, ints, tests, lt_z_tells)

pub length_up_from : (lo : ℤ) (n : ℕ) → length (up_from lo n) ≡ n
length_up_from lo zero = refl
length_up_from lo (suc n) = ap suc (length_up_from (lo +ℤ pos 1) n)

pub length_range : (lo hi : ℤ) → length (range lo hi) ≡ count lo hi
unfolding range
length_range lo hi = length_up_from lo (count lo hi)

above_up_from : (lo : ℤ) (n : ℕ) (v : ℤ) → v <ℤ lo → Above v (up_from lo n)
above_up_from lo zero v h = tt
above_up_from lo (suc n) v h = (h, above_up_from (lo +ℤ pos 1) n lo (omega (arith, ints)))

pub rising_up_from : (lo : ℤ) (n : ℕ) → Rising (up_from lo n)
rising_up_from lo zero = tt
rising_up_from lo (suc n) = above_up_from (lo +ℤ pos 1) n lo (omega (arith, ints))

pub rising_range : (lo hi : ℤ) → Rising (range lo hi)
unfolding range
rising_range lo hi = rising_up_from lo (count lo hi)

-- ---- filters
pub has_kept : (p : ℤ → Bool) (s : List ℤ) (v : ℤ) → has (filter p s) v ≡ (p v && has s v)
has_kept p [] v = grind arith
has_kept p (x ∷ s) v = let ih = has_kept p s v in grind (arith, tests)

above_kept : (p : ℤ → Bool) (x : ℤ) (s : List ℤ) → Above x s → Above x (filter p s)
above_kept p x [] a = tt
above_kept p x (y ∷ s) a = let f = above_kept p y s a.1 in let g = above_kept p x s (above_lower x y s a.0 a.1) in grind arith

pub rising_kept : (p : ℤ → Bool) (s : List ℤ) → Rising s → Rising (filter p s)
rising_kept p [] a = tt
rising_kept p (x ∷ s) a = let f = above_kept p x s a in let g = above_rising x (filter p s) f in grind arith

pub within_kept : (p : ℤ → Bool) (s : List ℤ) → Within (filter p s) s
within_kept p s v i = let e = has_kept p s v in grind arith

pub in_kept : (p : ℤ → Bool) (s : List ℤ) (v : ℤ) → In v s → p v ≡ true → In v (filter p s)
in_kept p s v i h = let e = has_kept p s v in grind arith

pub kept_passes : (p : ℤ → Bool) (s : List ℤ) (v : ℤ) → In v (filter p s) → p v ≡ true
kept_passes p s v i = let e = has_kept p s v in grind arith

-- two tests that agree on the numbers of s
pub kept_same : (p q : ℤ → Bool) (s : List ℤ) → ((v : ℤ) → In v s → p v ≡ q v) → filter p s ≡ filter q s
kept_same p q [] h = refl
kept_same p q (x ∷ s) h =
    let e = h x (in_here x s) in
    let ih = kept_same p q s (λ v i. h v (in_there x s v i)) in
    cc

-- ---- least and greatest
pub min_z_tells : (a b : ℤ) → (int_min a b ≤ℤ a) × (int_min a b ≤ℤ b) × ((int_min a b ≡ a) ⊎ (int_min a b ≡ b))
min_z_tells a b = grind (arith, ints, clamps)

pub max_z_tells : (a b : ℤ) → (a ≤ℤ int_max a b) × (b ≤ℤ int_max a b) × ((int_max a b ≡ a) ⊎ (int_max a b ≡ b))
max_z_tells a b = grind (arith, ints, clamps)

-- least_by is a bound, and it is reached
least_on_bounds : (f : ℤ → ℤ) (x : ℤ) (s : List ℤ) (v : ℤ) → In v (x ∷ s) → least_on f x s ≤ℤ f v
least_on_bounds f x [] v i = let p = in_cons x [] v i in grind (arith, ints)
least_on_bounds f x (y ∷ s) v i =
    let p = in_cons x (y ∷ s) v i in
    let m = min_z_tells (f x) (least_on f y s) in
    let ih = least_on_bounds f y s v in
    grind (arith, ints)

greatest_on_bounds : (f : ℤ → ℤ) (x : ℤ) (s : List ℤ) (v : ℤ) → In v (x ∷ s) → f v ≤ℤ greatest_on f x s
greatest_on_bounds f x [] v i = let p = in_cons x [] v i in grind (arith, ints)
greatest_on_bounds f x (y ∷ s) v i =
    let p = in_cons x (y ∷ s) v i in
    let m = max_z_tells (f x) (greatest_on f y s) in
    let ih = greatest_on_bounds f y s v in
    grind (arith, ints)

least_on_reached : (f : ℤ → ℤ) (x : ℤ) (s : List ℤ) → (v : ℤ) × In v (x ∷ s) × (least_on f x s ≡ f v)
least_on_reached f x [] = (x, in_here x [], refl)
least_on_reached f x (y ∷ s) = go (least_on_reached f y s) (min_z_tells (f x) (least_on f y s)).2
  where
    go : ((v : ℤ) × In v (y ∷ s) × (least_on f y s ≡ f v)) → (least_on f x (y ∷ s) ≡ f x) ⊎ (least_on f x (y ∷ s) ≡ least_on f y s) → (v : ℤ) × In v (x ∷ (y ∷ s)) × (least_on f x (y ∷ s) ≡ f v)
    go r (inl e) = (x, in_here x (y ∷ s), e)
    go r (inr e) = (r.0, in_there x (y ∷ s) r.0 r.1, e ∙ r.2)

greatest_on_reached : (f : ℤ → ℤ) (x : ℤ) (s : List ℤ) → (v : ℤ) × In v (x ∷ s) × (greatest_on f x s ≡ f v)
greatest_on_reached f x [] = (x, in_here x [], refl)
greatest_on_reached f x (y ∷ s) = go (greatest_on_reached f y s) (max_z_tells (f x) (greatest_on f y s)).2
  where
    go : ((v : ℤ) × In v (y ∷ s) × (greatest_on f y s ≡ f v)) → (greatest_on f x (y ∷ s) ≡ f x) ⊎ (greatest_on f x (y ∷ s) ≡ greatest_on f y s) → (v : ℤ) × In v (x ∷ (y ∷ s)) × (greatest_on f x (y ∷ s) ≡ f v)
    go r (inl e) = (x, in_here x (y ∷ s), e)
    go r (inr e) = (r.0, in_there x (y ∷ s) r.0 r.1, e ∙ r.2)

pub least_bounds : (f : ℤ → ℤ) (s : List ℤ) (v : ℤ) → In v s → least_by f s ≤ℤ f v
least_bounds f [] v i = never i
least_bounds f (x ∷ s) v i = least_on_bounds f x s v i

pub greatest_bounds : (f : ℤ → ℤ) (s : List ℤ) (v : ℤ) → In v s → f v ≤ℤ greatest_by f s
greatest_bounds f [] v i = never i
greatest_bounds f (x ∷ s) v i = greatest_on_bounds f x s v i

pub least_reached : (f : ℤ → ℤ) (s : List ℤ) → 0 < length s → (v : ℤ) × In v s × (least_by f s ≡ f v)
least_reached f [] h = absurd (omega arith)
least_reached f (x ∷ s) h = least_on_reached f x s

pub greatest_reached : (f : ℤ → ℤ) (s : List ℤ) → 0 < length s → (v : ℤ) × In v s × (greatest_by f s ≡ f v)
greatest_reached f [] h = absurd (omega arith)
greatest_reached f (x ∷ s) h = greatest_on_reached f x s

pub some_from_in : (s : List ℤ) (v : ℤ) → In v s → 0 < length s
some_from_in [] v i = never i
some_from_in (x ∷ s) v i = omega arith

pub within_some : (s t : List ℤ) → Within s t → 0 < length s → 0 < length t
within_some [] t w h = absurd (omega arith)
within_some (x ∷ s) t w h = some_from_in t x (w x (in_here x s))

-- on fewer numbers the least value is no lower
pub least_within : (f : ℤ → ℤ) (s t : List ℤ) → Within s t → 0 < length s → least_by f t ≤ℤ least_by f s
least_within f s t w h = let r = least_reached f s h in let b = least_bounds f t r.0 (w r.0 r.1) in rw r.2 b

pub greatest_within : (f : ℤ → ℤ) (s t : List ℤ) → Within s t → 0 < length s → greatest_by f s ≤ℤ greatest_by f t
greatest_within f s t w h = let r = greatest_reached f s h in let b = greatest_bounds f t r.0 (w r.0 r.1) in rw r.2 b

pub bool_same : (b c : Bool) → (b ≡ true → c ≡ true) → (c ≡ true → b ≡ true) → b ≡ c
bool_same b c f g = same_from_decides {P = c ≡ true} b c (f, g) ((λ e. e), (λ e. e))

-- two rising lists, each within the other, are one list
pub within_both : (s t : List ℤ) → Rising s → Rising t → Within s t → Within t s → s ≡ t
within_both s t a b f g = rising_same s t a b (λ v. bool_same (has s v) (has t v) (f v) (g v))

pub none_within : (s : List ℤ) → Within s [] → s ≡ []
none_within [] w = refl
none_within (x ∷ s) w = never (w x (in_here x s))

-- ---- the smallest span around a set
pub in_hull : (s : List ℤ) (v : ℤ) → In v (hull s) → (least s ≤ℤ v) × (v ≤ℤ greatest s) × (0 < length s)
unfolding hull
in_hull [] v i = never i
in_hull (x ∷ s) v i =
    let b = between_is (least (x ∷ s)) (greatest (x ∷ s)) v (sym (has_range (least (x ∷ s)) (greatest (x ∷ s)) v) ∙ i) in
    (b.0, b.1, omega arith)

pub hull_in : (s : List ℤ) (v : ℤ) → least s ≤ℤ v → v ≤ℤ greatest s → 0 < length s → In v (hull s)
unfolding hull
hull_in [] v l g h = absurd (omega arith)
hull_in (x ∷ s) v l g h = has_range (least (x ∷ s)) (greatest (x ∷ s)) v ∙ is_between _ _ v l g

pub rising_hull : (s : List ℤ) → Rising (hull s)
unfolding hull
rising_hull [] = tt
rising_hull (x ∷ s) = rising_range (least (x ∷ s)) (greatest (x ∷ s))

pub within_hull : (s : List ℤ) → Within s (hull s)
within_hull s v i = hull_in s v (least_bounds (λ y. y) s v i) (greatest_bounds (λ y. y) s v i) (some_from_in s v i)

pub hull_mono : (s t : List ℤ) → Within s t → Within (hull s) (hull t)
hull_mono s t w v i =
    let b = in_hull s v i in
    let l = least_within (λ y. y) s t w b.2 in
    let g = greatest_within (λ y. y) s t w b.2 in
    hull_in t v (omega (arith, ints)) (omega (arith, ints)) (within_some s t w b.2)

-- a set with all numbers between any two of its own is a span
unfoldable pub Convex : List ℤ → Type 0
Convex s = (a b v : ℤ) → In a s → In b s → a ≤ℤ v → v ≤ℤ b → In v s

pub hull_convex : (s : List ℤ) → Rising s → Convex s → hull s ≡ s
unfolding Convex
hull_convex s r c = within_both (hull s) s (rising_hull s) r back (within_hull s)
  where
    back : Within (hull s) s
    back v i =
        let b = in_hull s v i in
        let l = least_reached (λ y. y) s b.2 in
        let g = greatest_reached (λ y. y) s b.2 in
        c l.0 g.0 v l.1 g.1 (rw l.2 at b.0) (rw g.2 at b.1)

pub convex_hull : (s : List ℤ) → Convex (hull s)
unfolding Convex
convex_hull s a b v i j l g =
    let x = in_hull s a i in
    let y = in_hull s b j in
    hull_in s v (omega (arith, ints)) (omega (arith, ints)) x.2

pub hull_again : (s : List ℤ) → hull (hull s) ≡ hull s
hull_again s = hull_convex (hull s) (rising_hull s) (convex_hull s)

pub hull_none : hull [] ≡ []
unfolding hull
hull_none = refl

-- the numbers of a span that pass a test without gaps are a span
unfoldable pub Gapless : (ℤ → Bool) → Type 0
Gapless p = (a b v : ℤ) → p a ≡ true → p b ≡ true → a ≤ℤ v → v ≤ℤ b → p v ≡ true

pub hull_kept : (p : ℤ → Bool) (s : List ℤ) → Rising s → hull s ≡ s → Gapless p → hull (filter p s) ≡ filter p s
unfolding Convex Gapless
hull_kept p s r e g = hull_convex (filter p s) (rising_kept p s r) (λ a b v i j l h. in_kept p s v (inside a b v (within_kept p s a i) (within_kept p s b j) l h) (g a b v (kept_passes p s a i) (kept_passes p s b j) l h))
  where
    inside : (a b v : ℤ) → In a s → In b s → a ≤ℤ v → v ≤ℤ b → In v s
    inside = subst (λ t. (a b v : ℤ) → In a t → In b t → a ≤ℤ v → v ≤ℤ b → In v t) e (convex_hull s)

-- a range, cut by bounds, is a range
pub kept_range : (lo hi l h : ℤ) (p : ℤ → Bool) → ((v : ℤ) → lo ≤ℤ v → v ≤ℤ hi → p v ≡ between l h v) → filter p (range lo hi) ≡ range (int_max lo l) (int_min hi h)
kept_range lo hi l h p e = rising_same _ _ (rising_kept p (range lo hi) (rising_range lo hi)) (rising_range (int_max lo l) (int_min hi h)) same
  where
    same : (v : ℤ) → has (filter p (range lo hi)) v ≡ has (range (int_max lo l) (int_min hi h)) v
    same v =
        let a = has_kept p (range lo hi) v in
        let b = has_range lo hi v in
        let c = has_range (int_max lo l) (int_min hi h) v in
        let d = e v in
        let m = max_z_tells lo l in
        let n = min_z_tells hi h in
        grind (arith, ints, tests)

pub range_none : (lo hi : ℤ) → hi <ℤ lo → range lo hi ≡ []
unfolding range
range_none lo hi h = let k = count_is lo hi in let e : count lo hi ≡ 0 = grind (arith, ints) in rw e refl

pub range_some : (lo hi : ℤ) → lo ≤ℤ hi → 0 < length (range lo hi)
range_some lo hi h = let k = count_is lo hi in let e = length_range lo hi in grind (arith, ints)

pub least_range : (f : ℤ → ℤ) (lo hi z : ℤ) → lo ≤ℤ hi → ((v : ℤ) → lo ≤ℤ v → v ≤ℤ hi → z ≤ℤ f v) → (v : ℤ) → lo ≤ℤ v → v ≤ℤ hi → z ≡ f v → least_by f (range lo hi) ≡ z
least_range f lo hi z h b v l g e =
    let r = least_reached f (range lo hi) (range_some lo hi h) in
    let i = between_is lo hi r.0 (sym (has_range lo hi r.0) ∙ r.1) in
    let x = b r.0 i.0 i.1 in
    let y = least_bounds f (range lo hi) v (has_range lo hi v ∙ is_between lo hi v l g) in
    let q = r.2 in
    omega (arith, ints)

pub greatest_range : (f : ℤ → ℤ) (lo hi z : ℤ) → lo ≤ℤ hi → ((v : ℤ) → lo ≤ℤ v → v ≤ℤ hi → f v ≤ℤ z) → (v : ℤ) → lo ≤ℤ v → v ≤ℤ hi → z ≡ f v → greatest_by f (range lo hi) ≡ z
greatest_range f lo hi z h b v l g e =
    let r = greatest_reached f (range lo hi) (range_some lo hi h) in
    let i = between_is lo hi r.0 (sym (has_range lo hi r.0) ∙ r.1) in
    let x = b r.0 i.0 i.1 in
    let y = greatest_bounds f (range lo hi) v (has_range lo hi v ∙ is_between lo hi v l g) in
    let q = r.2 in
    omega (arith, ints)

-- ---- what two sets share, and all numbers but one
pub has_meet : (s t : List ℤ) (v : ℤ) → has (meet s t) v ≡ (has t v && has s v)
unfolding meet
has_meet s t v = has_kept (has t) s v

pub has_remove : (x : ℤ) (s : List ℤ) (v : ℤ) → has (remove x s) v ≡ (not (eq_z v x) && has s v)
unfolding remove
has_remove x s v = has_kept (λ y. not (eq_z y x)) s v
