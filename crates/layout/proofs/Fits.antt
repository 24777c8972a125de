-- No text of a statement or a refusal is longer than `text_most` (Case file, the program's output). Assumes nothing.
use Prim.Native.Nat.{ℕ, zero, suc, ◌*◌, ◌≤◌}
use mathlib.Core.Path.{◌≡◌, refl}
use mathlib.Core.Bool.{Bool, true, false, cond, not}
use mathlib.Core.List.{List}
use native.Mathlib.Omega.{arith}
use lib.ListN.{length, get_or, length-append}
use Rattle.common.specs.Rows.{row}
use Rattle.profile.specs.Limits.{span_most}
use Rattle.account.specs.Account.{days, shown, unfit, sound}
use Rattle.account.proofs.Sound.{fit}
use Rattle.statement.specs.Parts.{Outputs, parts_of, statement_of}
use Rattle.statement.specs.Shares.{total}
use Rattle.statement.specs.Call.{too_few_readings}
use Rattle.statement.proofs.Parts.{parts_fit}
use Rattle.layout.specs.Text.{line_of, part_lines, parts_text, refusal_text}
use Rattle.layout.specs.Accounts.{text_most, TextFits}
use Rattle.layout.proofs.Decimal.{decimal_most}

pub refusal_most : (number place : ℕ) → length (refusal_text number place) ≤ text_most
refusal_most number place = simp length-append (omega (arith, decimal_most number, decimal_most place))

line_most : (f t w : ℕ) → length (line_of f t w) ≤ 66
line_most f t w = simp length-append (omega (arith, decimal_most f, decimal_most t, decimal_most w))

lines_most : (o : Outputs) (m : ℕ) → length (part_lines o m) ≤ 66 * m
unfolding part_lines
lines_most o zero = omega arith
lines_most o (suc m) =
    let line = line_of (get_or o.from m 0) (get_or o.to m 0) (get_or o.wh m 0) in
    omega (arith, lines_most o m, line_most (get_or o.from m 0) (get_or o.to m 0) (get_or o.wh m 0), length-append (part_lines o m) line)

parts_most : (o : Outputs) (m : ℕ) → m ≤ span_most → length (parts_text o m) ≤ text_most
parts_most o m h = simp length-append (omega (arith, decimal_most m, decimal_most (total o m), lines_most o m))

pub either : (b : Bool) (x y : List ℕ) → length x ≤ text_most → length y ≤ text_most → length (cond b x y) ≤ text_most
either true x y h g = h
either false x y h g = g

pub account_most : TextFits
account_most a = by (unfit a) refl (not (sound a)) (too_few_readings (days a) (shown a).readings)
  where
    by : (u : Bool) → unfit a ≡ u → (s t : Bool) →
        length (row u (refusal_text 3 0) (row s (refusal_text 5 0) (row t (refusal_text 11 0) (parts_text (statement_of a.weights (shown a)) (length (parts_of a.weights (shown a))))))) ≤ text_most
    by true e s t = refusal_most 3 0
    by false e true t = refusal_most 5 0
    by false e false true = refusal_most 11 0
    by false e false false = parts_most _ _ (omega (arith, parts_fit a.weights (shown a) (days a), (fit a e).most))
