-- An accepted call leaves an account that fits and is sound (Account and its calls, "Sound"). Assumes nothing.
use Prim.Native.Nat.{ℕ, suc, ◌≤◌, ◌<◌}
use mathlib.Core.Path.{◌≡◌, refl, ◌∙◌, subst⁻¹}
use mathlib.Core.Bool.{Bool, true, false, not, cond}
use mathlib.Core.List.{List}
use lib.Dec.{leb, ltb, eqb, lit<}
use lib.ListN.{length, get_or, set, length-set, length-replicate, get_or-eq_default}
use borrow.Author.Tests.{le-leb, ltb-false, not-false}
use native.Mathlib.Omega.{arith}
use Rattle.common.specs.Below.{everywhere}
use Rattle.account.specs.Stands.{Stands, nothing, put, with_reading, without_reading, last_less_first}
use Rattle.account.specs.Account.{Account, account, shown, days, unfit, sound, good_weights, good_marks, zero_counts, energy_most, mark_of}
use Rattle.account.specs.Slices.{Checked}
use Rattle.account.specs.Refusals.{out_of_order, too_much, open_number, reading_rows, withdraw_rows, cut_rows, uncut_rows}
use Rattle.account.specs.Calls.{cleared, reading_put, reading_removed, cut_put, cut_removed}
use Rattle.common.proofs.Below.{clash, every_at, every_is}
use Rattle.account.proofs.Sound.{fit, Sound, sound_parts}
use Rattle.common.proofs.Rows.{row_none}
use Rattle.account.proofs.Shows.{set_asked, shows_cut, shows_reading, shows_nothing, zeros}
use Rattle.account.proofs.Readings.{SoundReadings, reading_sound, withdraw_sound, nothing_sound}

-- the account fits and is sound, has these weights and shows what stands
pub record Holds (w : List ℕ) (s : Stands) (a : Account) : Type 0 where
  pub checked : Checked a
  pub weighs : a.weights ≡ w
  pub shows : shown a ≡ s

readings_of : (a : Account) → Sound a → SoundReadings (days a) (shown a).readings
unfolding zero_counts
readings_of a s = record { zeros = s.zeros; order = s.order; energy = s.energy }

is_sound : (a : Account) → good_weights a.weights ≡ true → good_marks a ≡ true → SoundReadings (days a) (shown a).readings → sound a ≡ true
unfolding zero_counts
is_sound a weights marks s =
    rw (weights, marks, s.zeros, s.order, le-leb (last_less_first (days a) (shown a).readings) energy_most s.energy)

put_true : (p : ℕ → Bool) (k : ℕ) (t : Bool) (j : ℕ) → t ≡ true → p j ≡ true → put p k t j ≡ true
put_true p k t j e h = go (eqb j k)
  where
    go : (b : Bool) → cond b t (p j) ≡ true
    go true = e
    go false = h

small_mark : (r c : Bool) → leb (mark_of r c) 3 ≡ true
small_mark false false = refl
small_mark false true = refl
small_mark true false = refl
small_mark true true = refl

module _ (a : Account) (f : Checked a) (k : ℕ) (inside : k < length a.marks) where
  good_marks_lem : (m : ℕ) → leb m 3 ≡ true → everywhere (λ j. leb (get_or (set a.marks k m) j 0) 3) (suc (days a)) ≡ true
  unfolding good_marks
  good_marks_lem m small =
      let before = every_at (λ j. leb (get_or a.marks j 0) 3) (suc (days a)) (sound_parts a f.sound).marks in
      every_is _ _ λ j h.
      set_asked (λ x. leb x 3) a.marks k m inside j ∙ put_true (λ i. leb (get_or a.marks i 0) 3) k (leb m 3) j small (before j h)

  -- with another mark at k and as many counts, fine if its readings are sound
  kept : (r c : Bool) (cs : List ℕ) → length cs ≡ length a.counts →
      SoundReadings (days a) (shown (account a.weights (set a.marks k (mark_of r c)) cs)).readings →
      Checked (account a.weights (set a.marks k (mark_of r c)) cs)
  unfolding good_marks
  kept r c cs same good =
      record {
        fits = rw (length-set, same) f.fits;
        sound =
            is_sound (account a.weights (set a.marks k (mark_of r c)) cs)
            (sound_parts a f.sound).weights (good_marks_lem (mark_of r c) (small_mark r c)) good;
      }

module _ (a : Account) (f : Checked a) (k : ℕ) where
  good_readings : SoundReadings (days a) (shown a).readings
  good_readings = readings_of a (sound_parts a f.sound)

  in_marks : ltb (days a) k ≡ false → k < length a.marks
  in_marks e = omega (arith, ltb-false (days a) k e, fit a f.fits)

  reading_holds : (t : Bool) (v : ℕ) → ltb (days a) k ≡ false →
      SoundReadings (days a) (record { at = put (shown a).readings.at k t; count = put (shown a).readings.count k v }) →
      Holds a.weights
      (record { readings = record { at = put (shown a).readings.at k t; count = put (shown a).readings.count k v }; cut = (shown a).cut })
      (account a.weights (set a.marks k (mark_of t ((shown a).cut k))) (set a.counts k v))
  reading_holds t v inside good =
      let shows = shows_reading a k (in_marks inside) t v (omega (arith, ltb-false (days a) k inside, fit a f.fits)) in
      record {
        checked =
            kept a f k (in_marks inside) t ((shown a).cut k) (set a.counts k v) (length-set a.counts k v)
            (subst⁻¹ (λ s. SoundReadings (days a) s.readings) shows good);
        weighs = refl;
        shows = shows;
      }

  pub reading_keeps : (v : ℕ) → reading_rows (days a) (shown a) k v ≡ 0 →
      Holds a.weights (record { readings = with_reading (shown a).readings k v; cut = (shown a).cut }) (reading_put a k v)
  reading_keeps v accepted =
      let (inside, rest) = row_none (ltb (days a) k) _ _ (lit< tt) accepted in
      let (free, rest') = row_none ((shown a).readings.at k) _ _ (lit< tt) rest in
      let (ordered, rest'') = row_none (out_of_order (days a) (shown a).readings k v) _ _ (lit< tt) rest' in
      let (small, _) = row_none (too_much (days a) (shown a).readings k v) _ _ (lit< tt) rest'' in
      reading_holds true v inside (reading_sound (days a) (shown a).readings good_readings k v ordered small)

  pub withdraw_keeps : withdraw_rows (days a) (shown a) k ≡ 0 →
      Holds a.weights (record { readings = without_reading (shown a).readings k; cut = (shown a).cut }) (reading_removed a k)
  withdraw_keeps accepted =
      reading_holds false 0 (row_none (ltb (days a) k) _ _ (lit< tt) accepted).0 (withdraw_sound (days a) (shown a).readings good_readings k)

  -- a cut put (c true) or removed
  cut_holds : (c : Bool) → ltb (days a) k ≡ false →
      Holds a.weights (record { readings = (shown a).readings; cut = put (shown a).cut k c })
      (account a.weights (set a.marks k (mark_of ((shown a).readings.at k) c)) a.counts)
  cut_holds c inside =
      let shows = shows_cut a k (in_marks inside) c in
      record {
        checked =
            kept a f k (in_marks inside) ((shown a).readings.at k) c a.counts refl
            (subst⁻¹ (λ s. SoundReadings (days a) s.readings) shows good_readings);
        weighs = refl;
        shows = shows;
      }

  pub cut_keeps : cut_rows (days a) (shown a) k ≡ 0 →
      Holds a.weights (record { readings = (shown a).readings; cut = put (shown a).cut k true }) (cut_put a k)
  cut_keeps accepted = cut_holds true (row_none (ltb (days a) k) _ _ (lit< tt) accepted).0

  pub uncut_keeps : uncut_rows (days a) (shown a) k ≡ 0 →
      Holds a.weights (record { readings = (shown a).readings; cut = put (shown a).cut k false }) (cut_removed a k)
  uncut_keeps accepted = cut_holds false (row_none (ltb (days a) k) _ _ (lit< tt) accepted).0

-- "Open clears marks and counts, checking only lengths and weights."
pub open_keeps : (a : Account) → open_number a ≡ 0 → Holds a.weights nothing (cleared a)
unfolding good_marks
open_keeps a accepted =
    let (fits, rest) = row_none (unfit a) _ _ (lit< tt) accepted in
    let (weights, _) = row_none (not (good_weights a.weights)) _ _ (lit< tt) rest in
    record {
      checked =
          record {
            fits = simp length-replicate fits;
            sound =
                is_sound (cleared a) (not-false _ weights) (every_is _ _ (λ k h. rw zeros))
                (subst⁻¹ (λ s. SoundReadings (days a) s.readings) (shows_nothing a) (nothing_sound (days a)));
          };
      weighs = refl;
      shows = shows_nothing a;
    }

-- readings stand at boundaries 0 to n alone
pub shown_inside : (a : Account) → unfit a ≡ false → (k : ℕ) → (shown a).readings.at k ≡ true → k ≤ days a
shown_inside a fits k at =
    let inside : days a < k → ⊥ =
    λ past. clash at (rw (get_or-eq_default a.marks 0 {n = k} (omega (arith, fit a fits)))) in
    omega arith
