-- How the replies of levels cross, a top level over 127 being refused like 0; that both calls are determined.
use Rattle.std.proofs.Common.{Result, Ok, Err}
use lib.Ieee.{Float}
use lib.IntN.{ℤ}
use lib.ListN.{length, set}
use mathlib.Core.List.{List}
use mathlib.Core.Logic.{inl, inr}
use mathlib.Core.Path.{ap, ap₂, refl, subst, sym, ◌∙◌, ◌≡◌}
use mir.Facts.{to_z-of_z}
use mir.Syntax.{w16}
use mir.Val.{SFits, of_z, to_z}
use native.Mathlib.Decide.{dec_lt}
use native.Mathlib.Omega.{arith}
use Prim.Native.Nat.{◌<◌, ◌≤◌, ℕ}
use Rattle.exports.proofs.CallsDetermined.{calls-determined}
use Rattle.exports.proofs.CallsMade.{replied}
use Rattle.exports.specs.Calls.{Calls, Crossing, RefusedAt, done}
use Rattle.exports.specs.Promises.{HasCell}
use Rattle.exports.specs.Sampling.{CallsLevel, CallsLevels, LevelCells, Narrows, SamplesTo, Sampling, level_as, level_cells, sampled_as, setting_of}
use Rattle.levels.proofs.LevelsDetermined.{level-determined, levels-determined}
use Rattle.levels.specs.Choosing.{sample_of}
use Rattle.levels.specs.declared.Sample.{Sample}
use Rattle.levels.specs.Giving.{GivesLevel, GivesLevels, bad_setting, block_conditions}
use Rattle.plates.specs.declared.Refusal.{Refusal}
use Rattle.plates.specs.declared.Refusal.TheVariants.{BadSetting}
use Rattle.plates.specs.Refusals.{Refuses}

-- ---- a setting with a narrowed top level is refused where the one with the top level itself is

module _ (step : Float) {top narrow : ℕ} (h : Narrows top narrow) where
  -- over 127 neither is permitted
  bad-narrow : 127 < top → bad_setting (setting_of step narrow) BadSetting
  bad-narrow l = ((λ good. omega (arith, good.least, h.over l)), refl)

  bad-top : {q : Refusal} → 127 < top → bad_setting (setting_of step narrow) q → bad_setting (setting_of step top) q
  bad-top l b = ((λ good. omega (arith, good.most)), b.1)

  pub level-given : (sample : Sample) {other : Sample} (r : Result ℤ Refusal) → sample ≡ other → GivesLevel (setting_of step narrow) sample r
      → GivesLevel (setting_of step top) other r
  level-given sample r e g = subst (λ (x : Sample). GivesLevel (setting_of step top) x r) e (go (dec_lt 127 top) r g)
    where
      go : Dec (127 < top) → (s : Result ℤ Refusal) → GivesLevel (setting_of step narrow) sample s → GivesLevel (setting_of step top) sample s
      go (no l) s x = subst (λ (t : ℕ). GivesLevel (setting_of step t) sample s) (h.within (omega arith)) x
      go (yes l) (Ok y) x = absurd (x.0.0 BadSetting (bad-narrow l))
      go (yes l) (Err q) (inl x) = inl (bad-top l x)
      go (yes l) (Err q) (inr x) = absurd (x.0 BadSetting (bad-narrow l))

  -- a reply below, given of the narrowed top level and an equal sample, crosses as the call promises of the top level itself
  pub level-replied : {sample other : Sample} {r reply : Result ℤ Refusal} {cell : List ℤ} {out : Crossing (List ℤ)} → 1 ≤ length cell
      → sample ≡ other → GivesLevel (setting_of step narrow) sample r → r ≡ reply → out ≡ level_as cell reply
      → Calls (1 ≤ length cell) cell (GivesLevel (setting_of step top) other) (level_as cell) out
  level-replied {sample} {r = r} shape s g = replied shape r _ (level-given sample r s g)

  module _ (n : ℕ) (values : List Float) (erased : ℕ) (room room' : List ℤ) where
    refused-alike : {q : Refusal} → 127 < top → Refuses (block_conditions n (setting_of step narrow) values erased room) q
        → Refuses (block_conditions n (setting_of step top) values erased room) q
    refused-alike l (inl x) = inl x
    refused-alike l (inr (b, inl x)) = inr (b, inl (bad-top l x))
    refused-alike l (inr (b, inr x)) = absurd (x.0 BadSetting (bad-narrow l))

    pub levels-given : (r : Result (Unit {0}) Refusal) → GivesLevels n (setting_of step narrow) values erased room room' r
        → GivesLevels n (setting_of step top) values erased room room' r
    levels-given r g = go (dec_lt 127 top) r g
      where
        go : Dec (127 < top) → (s : Result (Unit {0}) Refusal) → GivesLevels n (setting_of step narrow) values erased room room' s
            → GivesLevels n (setting_of step top) values erased room room' s
        go (no l) s x = subst (λ (t : ℕ). GivesLevels n (setting_of step t) values erased room room' s) (h.within (omega arith)) x
        go (yes l) (Ok _) x = absurd (x.0.1.0 BadSetting (bad-narrow l))
        go (yes l) (Err q) x = (refused-alike l x.0, x.1)

-- a level that was copied into its cell
pub level-written : (cell : List ℤ) (z : ℤ) → SFits w16 z
    → ◌≡◌ {A = Crossing (List ℤ)} (record { code = done; cells = set cell 0 (to_z w16 (of_z w16 z)) }) (level_as cell (Ok z))
level-written cell z fits = ap (λ (x : ℤ). record { code = done; cells = set cell 0 x }) (to_z-of_z fits)

-- ---- the levels of a block cross

module _ (n : ℕ) (step : Float) (top : ℕ) (values : List Float) (erased : ℕ) (lent : LevelCells) (levels : List ℤ) (reply : Result (Unit {0}) Refusal)
    (shape : HasCell lent.at) (gives : GivesLevels n (setting_of step top) values erased lent.levels levels reply) where
  -- a code and cells that the reply crosses as
  crossed : {out : Crossing LevelCells} → out ≡ sampled_as lent levels reply → CallsLevels n step top values erased lent out.code out.cells
  crossed e = record { by_shape = inr (shape, record { reply = record { reply = reply; levels = levels }; promised = gives; crosses = e }) }

  -- the levels are in their room
  pub levels-written : reply ≡ Ok tt → CallsLevels n step top values erased lent done (level_cells levels (set lent.at 0 0))
  levels-written e = crossed (sym (ap (sampled_as lent levels) e))

  -- the place is in its cell
  pub levels-refused : {q : Refusal} {r : ℕ} {at' : List ℕ} → reply ≡ Err q → RefusedAt q lent.at r at'
      → CallsLevels n step top values erased lent r (level_cells levels at')
  levels-refused e f =
      crossed
      (ap₂ (λ (x : ℕ) (p : List ℕ). record { code = x; cells = level_cells levels p }) f.number_is f.place_is ∙ sym (ap (sampled_as lent levels) e))

-- ---- determined

pub level-call-determined : (step : Float) (top : ℕ) (value : Float) (erased : ℕ) (cell a b : List ℤ) (r s : ℕ) → CallsLevel step top value erased cell r a
    → CallsLevel step top value erased cell s b → ◌≡◌ {A = Crossing (List ℤ)} (record { code = r; cells = a }) (record { code = s; cells = b })
level-call-determined step top value erased cell a b r s = calls-determined (level-determined (setting_of step top) (sample_of value erased))

pub levels-call-determined : (n : ℕ) (step : Float) (top : ℕ) (values : List Float) (erased : ℕ) (lent a b : LevelCells) (r s : ℕ)
    → CallsLevels n step top values erased lent r a → CallsLevels n step top values erased lent s b
    → ◌≡◌ {A = Crossing LevelCells} (record { code = r; cells = a }) (record { code = s; cells = b })
levels-call-determined n step top values erased lent a b r s = calls-determined one
  where
    one : (x y : Sampling) → SamplesTo n (setting_of step top) values erased lent x → SamplesTo n (setting_of step top) values erased lent y → x ≡ y
    one x y p q =
        let same = levels-determined n (setting_of step top) values erased lent.levels x.reply y.reply x.levels y.levels p q in
        ap₂ (λ (u : Result (Unit {0}) Refusal) (l : List ℤ). record { reply = u; levels = l }) same.0 same.1
