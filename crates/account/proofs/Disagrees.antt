-- Row 8 (If a call declines) in one question: some boundary disagrees with the count. Assumes nothing.
use Prim.Native.Nat.{ℕ, zero, suc}
use mathlib.Core.Path.{◌≡◌, refl, ap, ◌∙◌}
use mathlib.Core.Bool.{Bool, true, false, ◌||◌}
use Rattle.common.specs.Below.{somewhere}
use Rattle.account.specs.Stands.{Readings}
use Rattle.account.specs.Refusals.{below_earlier, above_later, out_of_order}

-- where one or the other holds somewhere
some_either : (p q : ℕ → Bool) (m : ℕ) → somewhere (λ j. p j || q j) m ≡ (somewhere p m || somewhere q m)
unfolding somewhere
some_either p q zero = refl
some_either p q (suc m) = ap (λ (b : Bool). b || (p m || q m)) (some_either p q m) ∙ go (somewhere p m) (p m) (somewhere q m)
  where
    go : (a x b : Bool) → ((a || b) || (x || q m)) ≡ ((a || x) || (b || q m))
    go true x b = refl
    go false true true = refl
    go false true false = refl
    go false false b = refl

pub disagrees_somewhere : (n : ℕ) (r : Readings) (k v : ℕ) → somewhere (λ j. below_earlier r k v j || above_later r k v j) (suc n) ≡ out_of_order n r k v
unfolding out_of_order
disagrees_somewhere n r k v = some_either (below_earlier r k v) (above_later r k v) (suc n)
