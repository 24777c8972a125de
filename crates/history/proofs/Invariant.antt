-- What holds of the account all along a run (Account and its calls): it fits, is sound, has the weights that open was given, and shows
-- what stands. Every call keeps that, refused or not. Assumes nothing.
use Prim.Native.Nat.{ℕ, suc}
use mathlib.Core.Path.{◌≡◌, refl, sym, ◌∙◌, subst₂}
use mathlib.Core.Bool.{Bool, true, false, cond}
use mathlib.Core.List.{List, [], ◌∷◌, ◌++◌, map}
use lib.Dec.{eqb, leb}
use lib.ListN.{length, get_or}
use borrow.Author.Tests.{eqb-true, leb-true}
use native.Mathlib.Omega.{arith}
use Rattle.account.specs.Stands.{Stands, nothing}
use Rattle.account.specs.Account.{Account, days, shown, good_marks}
use Rattle.common.specs.Rows.{if_done}
use Rattle.account.specs.Refusals.{account_rows, reading_rows, withdraw_rows, cut_rows, uncut_rows}
use Rattle.account.specs.Calls.{reading_put, reading_removed, cut_put, cut_removed}
use Rattle.common.proofs.Below.{every_at}
use Rattle.account.proofs.Stores.{mark_is}
use Rattle.account.proofs.Sound.{fit, sound_parts}
use Rattle.account.specs.Slices.{Checked}
use Rattle.account.proofs.Keeps.{Holds, reading_keeps, withdraw_keeps, cut_keeps, uncut_keeps}
use Rattle.history.specs.History.{after, stands_from}
use Rattle.history.specs.Run.{Event, Step, Run, call, account_after, answered, table_says, standing}
use Rattle.history.specs.Run as run
use Rattle.history.specs.Demand3.{Carries}

same : (a : Account) → Checked a → Holds a.weights (shown a) a
same a f = record { checked = f; weighs = refl; shows = refl }

-- the account after a call on a boundary: changed where the call's own rows do not hold
changes : (a done b : Account) (changed : Stands) (rows : ℕ) → Checked a → b ≡ cond (eqb (account_rows a rows) 0) done a →
    (rows ≡ 0 → Holds a.weights changed done) → Holds a.weights (if_done rows changed (shown a)) b
changes a done b changed rows f leaves accepted = go (eqb rows 0) refl (rw (f.fits, f.sound) at leaves)
  where
    go : (t : Bool) → eqb rows 0 ≡ t → b ≡ cond t done a → Holds a.weights (cond t changed (shown a)) b
    go true e is = rw is (accepted (eqb-true rows 0 e))
    go false e is = rw is (same a f)

step : (a : Account) (e : Event) → Checked a → Step a e → Holds a.weights (after (days a) (shown a) (call e)) (account_after e)
step a (run.reading k v r b) f met =
    changes a (reading_put a k v) b _ (reading_rows (days a) (shown a) k v) f met.leaves (reading_keeps a f k v)
step a (run.withdraw k r b) f met =
    changes a (reading_removed a k) b _ (withdraw_rows (days a) (shown a) k) f met.leaves (withdraw_keeps a f k)
step a (run.cut k r b) f met = changes a (cut_put a k) b _ (cut_rows (days a) (shown a) k) f met.leaves (cut_keeps a f k)
step a (run.uncut k r b) f met = changes a (cut_removed a k) b _ (uncut_rows (days a) (shown a) k) f met.leaves (uncut_keeps a f k)
step a (run.statement o r m b out) f met = rw met.stays (same a f)

steps : (w : List ℕ) (s : Stands) (a : Account) (e : Event) → Holds w s a → Step a e → Holds w (after (length w) s (call e)) (account_after e)
steps w s a e holds met =
    subst₂ (λ v t. Holds v (after (length v) t (call e)) (account_after e)) holds.weighs holds.shows (step a e holds.checked met)

-- the account before each event of a run, and the event's own step from it
pub along : (w : List ℕ) (s : Stands) (a : Account) → Holds w s a → (before : List Event) (e : Event) (rest : List Event) →
    Run a (before ++ (e ∷ rest)) → (b : Account) × Holds w (stands_from (length w) s (map call before)) b × Step b e
unfolding stands_from
along w s a holds [] e rest runs = (a, holds, runs.0)
along w s a holds (c ∷ before) e rest runs =
    along w (after (length w) s (call c)) (account_after c) (steps w s a c holds runs.0) before e rest runs.1

-- one call more at the end
snoc : (n : ℕ) (s : Stands) (before : List Event) (e : Event) →
    stands_from n s (map call (before ++ (e ∷ []))) ≡ after n (stands_from n s (map call before)) (call e)
unfolding stands_from
snoc n s [] e = refl
snoc n s (c ∷ before) e = snoc n (after n s (call c)) before e

-- a sound account has the slices of what it shows
carries : (a : Account) → Checked a → Carries a.weights (shown a) a
unfolding good_marks
carries a f =
    let lengths = fit a f.fits in
    record {
      weighs = refl;
      marks_long = lengths.marks;
      counts_long = lengths.counts;
      mark_is =
          λ k h. mark_is (get_or a.marks k 0)
          (leb-true (get_or a.marks k 0) 3 (every_at (λ j. leb (get_or a.marks j 0) 3) (suc (days a)) (sound_parts a f.sound).marks k (omega arith)));
      count_is = λ k h. refl;
    }

-- the slices after a call are those of what then stands
pub leaves_standing : (w : List ℕ) (before : List Event) (a : Account) (e : Event) → Holds w (standing w before) a → Step a e →
    Carries w (standing w (before ++ (e ∷ []))) (account_after e)
leaves_standing w before a e holds met =
    let next = steps w (standing w before) a e holds met in
    subst₂ (λ v s. Carries v s (account_after e)) next.weighs (next.shows ∙ sym (snoc (length w) nothing before e)) (carries (account_after e) next.checked)

-- a call's answer is what the table, applied to what the account shows, says
answers : (a : Account) (e : Event) → Checked a → Step a e → answered e ≡ table_says a.weights (shown a) (call e)
answers a (run.reading k v r b) f met = rw (f.fits, f.sound) at met.answers
answers a (run.withdraw k r b) f met = rw (f.fits, f.sound) at met.answers
answers a (run.cut k r b) f met = rw (f.fits, f.sound) at met.answers
answers a (run.uncut k r b) f met = rw (f.fits, f.sound) at met.answers
answers a (run.statement o r m b out) f met = rw (f.fits, f.sound) at met.answers

pub table_says_lem : (w : List ℕ) (s : Stands) (a : Account) (e : Event) → Holds w s a → Step a e → answered e ≡ table_says w s (call e)
table_says_lem w s a e holds met =
    subst₂ (λ v t. answered e ≡ table_says v t (call e)) holds.weighs holds.shows (answers a e holds.checked met)
