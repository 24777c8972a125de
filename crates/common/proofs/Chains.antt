-- What a chain over a list answers (`all`, `any`, `position`, `rposition`), as a question about the numbers below one (Account and its calls).
use Rattle.std.proofs.Common.{◌≡◌, ℕ, ◌<◌, Bool, true, false, refl, sym}
use Rattle.std.specs.Prelude.{◌↔◌, IsTrue, Option, Some, None, MatchOption}
use Rattle.std.specs.Option.{unwrap_or}
use Rattle.common.specs.Below.{first, last, everywhere, somewhere}
use Rattle.common.proofs.Below.{clash, refuted, every_at, every_is, first_at, first_none, none_is, none_at, last_is, last_none}

module _ (p : ℕ → Bool) (m : ℕ) where
  -- a test that is true exactly where p holds at every number below m
  pub every_index : (b : Bool) → (IsTrue b ↔ ((k : ℕ) → k < m → p k ≡ true)) → b ≡ everywhere p m
  every_index true h = sym (every_is p m (h.0 refl))
  every_index false h = sym (refuted (everywhere p m) (λ e. clash (h.1 (every_at p m e)) refl))

  -- one that is false exactly where p holds at none
  pub some_index : (b : Bool) → (b ≡ false ↔ ((k : ℕ) → k < m → p k ≡ false)) → b ≡ somewhere p m
  some_index true h = go (somewhere p m) refl
    where
      go : (e : Bool) → somewhere p m ≡ e → true ≡ e
      go true e = refl
      go false e = absurd (clash refl (h.1 (none_at p m e)))
  some_index false h = sym (none_is p m (h.0 refl))

  -- r is the first number below m at which p holds, if there is one
  abbrev pub Position : Option ℕ → Type 0
  Position r = MatchOption r ((k : ℕ) → k < m → p k ≡ false) (λ i. (i < m) × (p i ≡ true) × ((k : ℕ) → k < i → p k ≡ false))

  pub first_position : (r : Option ℕ) → Position r → unwrap_or r m ≡ first p m
  first_position None h = sym (first_none p m (none_is p m h))
  first_position (Some i) h = sym (first_at p m i h.0 (none_is p i h.2) h.1)

  -- and the last
  abbrev pub LastPosition : Option ℕ → Type 0
  LastPosition r = MatchOption r ((k : ℕ) → k < m → p k ≡ false) (λ i. (i < m) × (p i ≡ true) × ((k : ℕ) → i < k → k < m → p k ≡ false))

  pub last_position : (r : Option ℕ) → LastPosition r → unwrap_or r 0 ≡ last p m
  last_position None h = sym (last_none p m h)
  last_position (Some i) h = sym (last_is p (record { below = h.0; holds = h.1; none_after = h.2 }))
