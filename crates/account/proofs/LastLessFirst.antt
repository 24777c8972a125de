-- Last less first (Account and its calls), from the four numbers that make it. Assumes nothing.
use Prim.Native.Nat.{ℕ, suc, ◌-◌}
use mathlib.Core.Path.{◌≡◌, ap, ap₂, ◌∙◌}
use Rattle.common.specs.Below.{first, last}
use Rattle.account.specs.Stands.{Readings, last_less_first}

-- m: the number of boundaries; l, f: the last and the first reading; x, y: their counts
pub last_less_first_is : (n : ℕ) (r : Readings) {m l f x y d : ℕ} → m ≡ suc n →
    l ≡ last r.at m → x ≡ r.count l → f ≡ first r.at m → y ≡ r.count f → d ≡ x - y → d ≡ last_less_first n r
unfolding last_less_first
last_less_first_is n r e l x f y d = d ∙ ap₂ ◌-◌ (x ∙ ap r.count (l ∙ ap (last r.at) e)) (y ∙ ap r.count (f ∙ ap (first r.at) e))
