-- The table of ten profiles (Profiles), tested once by computation: what every profile of it has. Assumes nothing.
use mathlib.Core.Path.{◌≡◌}
use mathlib.Core.Bool.{Bool, true, false, ◌&&◌}
use mathlib.Core.List.{List, [], ◌∷◌}
use Prim.Native.Nat.{ℕ, zero, suc, ◌*◌, ◌^◌, ◌<◌}
use native.Mathlib.Nat.{le_of_suc-le-suc, not-suc-le-zero}
use lib.Dec.{T, ltb, eqb, ltb→lt, eqb→eq}
use lib.IntN.{ℤ, pos, ◌+ℤ◌, ◌*ℤ◌}
use lib.ListN.{length, get_or}
use lib.Signed.{le_z, ◌≤ℤ◌}
use Rattle.rounding.specs.Integers.{floor_ℤ}
use Rattle.profile.specs.Limits.{coldest, warmest, weight_least, weight_most, profile_count}
use Rattle.common.specs.Lists.{sum_of}
use Rattle.profile.specs.Coefficients.{table, no_profile, profile_of}
use Rattle.profile.specs.Value.{linear}
use Rattle.profile.specs.declared.Profile.{Profile}

left : (a b : Bool) → T (a && b) → T a
left true b t = tt
left false b t = t

right : (a b : Bool) → T (a && b) → T b
right true b t = t
right false b t = absurd t

abbrev all : {A : Type 0} → (A → Bool) → List A → Bool
all f [] = true
all f (x ∷ l) = f x && all f l

at : {A : Type 0} (f : A → Bool) (l : List A) → T (all f l) → (k : ℕ) (d : A) → k < length l → T (f (get_or l k d))
at f [] t k d h = absurd (not-suc-le-zero h)
at f (x ∷ l) t zero d h = left (f x) (all f l) t
at f (x ∷ l) t (suc k) d h = at f l (right (f x) (all f l) t) k d (le_of_suc-le-suc h)

-- ---- the test
-- the value with no share at the warm end, and with a whole share at the cold end
abbrev pub least : Profile → ℤ
least p = linear p warmest

abbrev pub most : Profile → ℤ
most p = pos (p.a * 100) +ℤ linear p coldest

weighs : Profile → ℕ → Bool
weighs p factor =
    le_z (pos weight_least) (floor_ℤ (least p *ℤ pos factor) 10_000_000)
    && le_z (floor_ℤ (most p *ℤ pos factor) 10_000_000) (pos weight_most)

tested : Profile → Bool
tested p =
    ltb p.a (2 ^ 24)
    && (le_z p.mh (pos 0)
    && (le_z p.mw (pos 0)
    && (le_z (pos 0) (least p)
    && (le_z (most p) (pos (10 ^ 10))
    && (eqb (length p.factors) 7
    && (eqb (sum_of p.factors) 70_000
    && all (weighs p) p.factors))))))

all_tested : T (all tested table)
unfolding tested weighs linear sum_of
all_tested = tt

-- what the test tells of a profile
pub record Tested (p : Profile) : Type 0 where
  pub small : p.a < 2 ^ 24
  pub heating_falls : p.mh ≤ℤ pos 0
  pub water_falls : p.mw ≤ℤ pos 0
  pub natural : pos 0 ≤ℤ least p
  pub bounded : most p ≤ℤ pos (10 ^ 10)
  pub week : sum_of p.factors ≡ 70_000
  pub heavy : (w : ℕ) → w < 7 → pos weight_least ≤ℤ floor_ℤ (least p *ℤ pos (get_or p.factors w 0)) 10_000_000
  pub light : (w : ℕ) → w < 7 → floor_ℤ (most p *ℤ pos (get_or p.factors w 0)) 10_000_000 ≤ℤ pos weight_most

told : (p : Profile) → T (tested p) → Tested p
unfolding tested weighs
told p t =
    let seven : length p.factors ≡ 7 = eqb→eq _ _ (search (left, right) depth 8) in
    let each : T (all (weighs p) p.factors) = search (left, right) depth 8 in
    let weighed : (w : ℕ) → w < 7 → T (weighs p (get_or p.factors w 0)) = λ w h. at (weighs p) p.factors each w 0 (rw seven h) in
    record {
      small = ltb→lt _ _ (search left);
      heating_falls = record { le = search (left, right) depth 8 };
      water_falls = record { le = search (left, right) depth 8 };
      natural = record { le = search (left, right) depth 8 };
      bounded = record { le = search (left, right) depth 8 };
      week = eqb→eq _ _ (search (left, right) depth 8);
      heavy = λ w h. let k = weighed w h in record { le = search left };
      light = λ w h. let k = weighed w h in record { le = search (left, right) };
    }

pub profile_tested : (k : ℕ) → k < profile_count → Tested (profile_of k)
unfolding profile_of
profile_tested k h = told (profile_of k) (at tested table all_tested k no_profile h)
