-- A field of a line (K4): its bytes are characters, it reads as its number, and no other bytes do. Assumes nothing.
use Prim.Native.Nat.{ℕ, suc, ◌+◌, ◌-◌, ◌*◌, ◌^◌, ◌≤◌, ◌<◌}
use mathlib.Core.Path.{◌≡◌, sym, ◌∙◌, ap, ap₂, subst}
use mathlib.Core.Bool.{true}
use mathlib.Core.List.{List, ◌++◌}
use native.Mathlib.Decide.{dec_lt}
use native.Mathlib.Omega.{arith}
use lib.ListN.{length, get_or, take, drop, replicate, length-append, length-replicate, get_or-replicate, get_or-append}
use lib.Seq.{slice, split_at, get_or-append-add}
use Rattle.layout.specs.Text.{decimal, digit, all_digits}
use Rattle.layout.proofs.Decimal.{fewest_digits}
use Rattle.layout.proofs.ReadBack.{read_back, same_digits}
use Rattle.page.specs.Page.{aligned}
use Rattle.page.specs.Claims.{Character, Shows, OneField}

-- P holds of every byte and its place
pub record Each (P : (k x : ℕ) → Type 0) (text : List ℕ) : Type 0 where
  pub at : (k : ℕ) → k < length text → P k (get_or text k 0)

pub each_joined : {P : (k x : ℕ) → Type 0} {xs ys : List ℕ} → Each P xs → Each (λ k. P (length xs + k)) ys → Each P (xs ++ ys)
each_joined {P} {xs} {ys} first rest = record { at = λ k h. by k (rw length-append at h) (dec_lt k (length xs)) }
  where
    by : (k : ℕ) → k < length xs + length ys → Dec (k < length xs) → P k (get_or (xs ++ ys) k 0)
    by k h (yes l) = rw (get_or-append xs ys 0 k l) (first.at k l)
    by k h (no g) =
        let j = k - length xs in
        let e : length xs + j ≡ k = omega arith in
        subst (λ (i : ℕ). P i (get_or (xs ++ ys) i 0)) e (rw (get_or-append-add xs ys j 0) (rest.at j (omega arith)))

-- every byte is a character
abbrev pub Characters : List ℕ → Type 0
Characters text = Each (λ k. Character) text

digit_at : (text : List ℕ) → all_digits text ≡ true → (k : ℕ) → k < length text → (d : ℕ) × (d < 10) × (get_or text k 0 ≡ digit d)
digit_at text alone k h =
    read_back.ten (take k text) (drop (suc k) text) (get_or text k 0) (subst (λ (l : List ℕ). all_digits l ≡ true) (split_at text k 0 h) alone)

pub field_characters : (width n : ℕ) → n < 2 ^ 64 → Characters (aligned width (decimal n))
unfolding aligned
field_characters width n bits = each_joined (spaces (width - length (decimal n))) digits
  where
    spaces : (free : ℕ) → Characters (replicate free 32)
    spaces free = record { at = λ k h. rw (get_or-replicate {A = ℕ} free k 32 0 (rw length-replicate at h)) (omega arith) }

    digits : Characters (decimal n)
    digits = record { at = λ k h. let ten = digit_at (decimal n) (read_back.reads n bits).0 k h in omega (arith, ten.1, ten.2) }

pub field_shown : (page : List ℕ) (line column width n : ℕ) → slice (41 * line + column) (41 * line + column + width) page ≡ aligned width (decimal n) →
    2 + length (decimal n) ≤ width → n < 2 ^ 64 → Shows page line column width n
unfolding aligned
field_shown page line column width n is fits bits =
    record {
      reads =
          record {
            spaces = width - length (decimal n);
            digits = decimal n;
            all = is;
            alone = (read_back.reads n bits).0;
            value = (read_back.reads n bits).1;
            fewest = (fewest_digits n bits).0;
          };
      room = omega arith;
    }

pub one_field : OneField
unfolding aligned
one_field field n bits r =
    let fewest = (fewest_digits n bits).1 (length r.digits) r.fewest in
    let same = (same_digits 0 0 r.digits (decimal n) r.alone (read_back.reads n bits).0 fewest (r.value ∙ sym (read_back.reads n bits).1)).1 in
    let long = ap length r.all ∙ length-append (replicate r.spaces 32) r.digits in
    let spaces : r.spaces ≡ length field - length (decimal n) = omega (arith, length-replicate {A = ℕ} r.spaces 32) in
    r.all ∙ ap₂ (λ (s : ℕ) (d : List ℕ). replicate s 32 ++ d) spaces same
