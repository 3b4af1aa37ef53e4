-- The section of plate rows, as numbers, agrees with their trellis: states, branches, bits, and where each branch leads.

use lib.Bits.{bit_xor, differ}
use lib.Dec.{ltb}
use lib.ListN.{length}
use mathlib.Core.Bool.{◌&&◌, Bool, cond, false, true}
use mathlib.Core.List.{List, [], ◌∷◌}
use mathlib.Core.Path.{ap, ap₂, refl, sym, ◌∙◌, ◌≡◌}
use native.Mathlib.Nat.{pow-suc}
use native.Mathlib.Omega.{arith}
use Prim.Native.Nat.{◌%◌, ◌*◌, ◌+◌, ◌/◌, ◌<◌, ◌^◌, min, suc, zero, ℕ}
use Rattle.plates.specs.Profile.{live, live_at}
use Rattle.trellises.proofs.Digits.{gathered, mod-digit, mod-none, odd, one_more, put-half, put-odd, rest, without-zero}
use Rattle.trellises.proofs.OneMoreRow.{LastsApart, Rising, apart-rest, begins-alone, ends-alone, live-next, live_now, rising-rest, taking, with-row}
use Rattle.trellises.proofs.ParityDigits.{parity-digits}
use Rattle.trellises.specs.declared.Section.{Section}
use Rattle.trellises.specs.Numbers.{bit_of, branch_count, leads_to, leaves, without}
use Rattle.trellises.specs.SectionOf.{is_active, quiet, section_of}
use Rattle.trellises.specs.Smallest.{active_at}
use Rattle.trellises.specs.States.{active, state_of}
use Rattle.words.proofs.Parity.{differ-mod, parity-zero}
use Rattle.words.proofs.Word.{bit-lt, bit-xor, bit-zero}
use Rattle.words.specs.Choice.{more, pull, spread}
use Rattle.words.specs.Ends.{first, firsts, last, lasts}
use Rattle.words.specs.Parity.{parity}
use Rattle.words.specs.Span.{Spans}
use Rattle.words.specs.Sum.{sum_of, taken}
use Rattle.words.specs.Word.{bit}

-- the rows that branch v of section t takes
abbrev pub chosen : List ℕ → ℕ → ℕ → ℕ
chosen rows t v = spread (length rows) (active (firsts rows) (lasts rows) t) v

module _ (t : ℕ) where
  -- ---- the counts

  pub live-count : (rows : List ℕ) → (section_of rows t).live ≡ live_at rows t
  live-count [] = refl
  live-count (row ∷ rows) = rw (with-row t row (section_of rows t), live_now t row) (go (is_active t row) (ltb (first row) t) (live-count rows))
    where
      go : (a b : Bool) {C : ℕ} → (section_of rows t).live ≡ C → (taking a b (ltb t (last row)) (bit row t) (section_of rows t)).live ≡ more (a && b) C
      go false b e = e
      go true b e = ap (more b) e

  -- the active rows are the live ones and the one that begins
  pub active-count : (rows : List ℕ) → Rising rows → more (section_of rows t).begins (section_of rows t).live ≡ active_at rows t
  active-count [] h = refl
  active-count (row ∷ rows) h =
      rw (with-row t row (section_of rows t))
      (go (is_active t row) (ltb (first row) t) (begins-alone t row rows h) (active-count rows (rising-rest row rows h)))
    where
      c : Section
      c = section_of rows t

      more-suc : (b : Bool) (n : ℕ) → more b (suc n) ≡ suc (more b n)
      more-suc true n = refl
      more-suc false n = refl

      go : (a b : Bool) {C : ℕ} → (b ≡ false → c ≡ quiet) → more c.begins c.live ≡ C
          → more (taking a b (ltb t (last row)) (bit row t) c).begins (taking a b (ltb t (last row)) (bit row t) c).live ≡ more a C
      go false b q e = e
      go true true q e = more-suc c.begins c.live ∙ ap suc e
      go true false q e = ap suc (ap (λ (z : Section). z.live) (q refl) ∙ sym (ap (λ (z : Section). more z.begins z.live) (q refl)) ∙ e)

  -- ---- the branch v: the state that it leaves, its bit, and the state that it leads to

  leaves-state : (rows : List ℕ) → Rising rows → (v : ℕ)
      → leaves (section_of rows t) v ≡ state_of rows (firsts rows) (lasts rows) t (chosen rows t v)
  leaves-state [] h v = omega arith
  leaves-state (row ∷ rows) h v =
      ap (λ (z : Section). leaves z v) (with-row t row c)
      ∙ go (is_active t row) (ltb (first row) t) (begins-alone t row rows h) (leaves-state rows (rising-rest row rows h))
      ∙ sym (gathered (length rows) (live (firsts (row ∷ rows)) (lasts (row ∷ rows)) t) S (is_active t row) _ v (live_now t row))
    where
      c : Section
      c = section_of rows t

      S : ℕ → ℕ
      S = chosen rows t

      go : (a b : Bool) {G : ℕ → ℕ} → (b ≡ false → c ≡ quiet) → ((v : ℕ) → leaves c v ≡ G v)
          → leaves (taking a b (ltb t (last row)) (bit row t) c) v ≡ pull (a && b) (odd a v) (G (rest a v))
      go false b q ih = ih v
      go true true q ih = omega (arith, ih (v / 2), mod-digit v c.live)
      go true false q ih =
          let e : c.live ≡ 0 = ap (λ (z : Section). z.live) (q refl) in mod-none v c.live e ∙ sym (mod-none (v / 2) c.live e) ∙ ih (v / 2)

  bit-sum : (rows : List ℕ) (v : ℕ) → bit_of (section_of rows t) v ≡ bit (sum_of rows (chosen rows t v)) t
  bit-sum [] v = parity-zero v ∙ sym (bit-zero t)
  bit-sum (row ∷ rows) v =
      ap (λ (z : Section). bit_of z v) (with-row t row c)
      ∙ go (is_active t row) (bit-sum rows)
      ∙ sym (ap₂ (λ (d u : ℕ). bit (bit_xor (taken d row) (sum_of rows u)) t) (put-odd (is_active t row) S v) (put-half (is_active t row) S v) ∙ bit-xor t (taken (odd (is_active t row) v) row) (sum_of rows (S (rest (is_active t row) v))))
    where
      c : Section
      c = section_of rows t

      S : ℕ → ℕ
      S = chosen rows t

      bit-taken : (d : ℕ) → d < 2 → bit (taken d row) t ≡ min d (bit row t)
      bit-taken zero h = bit-zero t ∙ omega arith
      bit-taken (suc zero) h = omega (arith, bit-lt t row)
      bit-taken (suc (suc d)) h = absurd (omega arith)

      B : ℕ → ℕ
      B v = sum_of rows (S v)

      go : (a : Bool) → ((v : ℕ) → bit_of c v ≡ bit (B v) t)
          → bit_of (taking a (ltb (first row) t) (ltb t (last row)) (bit row t) c) v ≡ differ (bit (taken (odd a v) row) t) (bit (B (rest a v)) t)
      go false ih = ih v ∙ ap (λ (d : ℕ). differ d (bit (B v) t)) (sym (bit-zero t))
      go true ih =
          let e : v / 2 * 2 + v % 2 ≡ v = omega arith in
          ap (λ (x : ℕ). parity x (c.column * 2 + bit row t)) (sym e)
          ∙ parity-digits (v / 2) c.column (v % 2) (bit row t) (omega arith) (bit-lt t row)
          ∙ ap₂ (λ (x y : ℕ). (x + y) % 2) (sym (bit-taken (v % 2) (omega arith))) (ih (v / 2))
          ∙ sym (differ-mod (bit (taken (v % 2) row) t) (bit (B (v / 2)) t) (bit-lt t (taken (v % 2) row)) (bit-lt t (B (v / 2))))

  leads-state : (rows : List ℕ) → LastsApart rows → (v : ℕ) → v < 2 ^ active_at rows t
      → leads_to (section_of rows t) v ≡ state_of rows (firsts rows) (lasts rows) (suc t) (chosen rows t v)
  leads-state [] h v l = omega arith
  leads-state (row ∷ rows) h v l =
      ap (λ (z : Section). leads_to z v) (with-row t row c)
      ∙ go (is_active t row) (ltb t (last row)) refl refl l (leads-state rows (apart-rest row rows h))
      ∙ sym (gathered (length rows) (live (firsts (row ∷ rows)) (lasts (row ∷ rows)) (suc t)) S (is_active t row) _ v (live-next t row))
    where
      c : Section
      c = section_of rows t

      S : ℕ → ℕ
      S = chosen rows t

      C : ℕ
      C = active_at rows t

      go : (a g : Bool) {G : ℕ → ℕ} → is_active t row ≡ a → ltb t (last row) ≡ g → v < 2 ^ more a C → ((v : ℕ) → v < 2 ^ C → leads_to c v ≡ G v)
          → leads_to (taking a (ltb (first row) t) g (bit row t) c) v ≡ pull (a && g) (odd a v) (G (rest a v))
      go false g e f l ih = ih v l
      go true true e f l ih = one_more c.ends c.ending v ∙ ap (λ (x : ℕ). x * 2 + v % 2) (ih (v / 2) (omega (arith, pow-suc 2 C)))
      go true false e f l ih =
          without-zero v ∙ sym (ap (λ (b : Bool). cond b (without c.ending (v / 2)) (v / 2)) (ends-alone t row rows h e f)) ∙ ih (v / 2) (omega (arith, pow-suc 2 C))

-- what it is for a section's numbers to agree with the trellis of some rows at depth t
pub record Agrees (rows : List ℕ) (t : ℕ) (c : Section) : Type 0 where
  pub states : c.live ≡ live_at rows t
  pub branches : branch_count c ≡ 2 ^ active_at rows t
  pub from_state : (v : ℕ) → leaves c v ≡ state_of rows (firsts rows) (lasts rows) t (chosen rows t v)
  pub spells : (v : ℕ) → bit_of c v ≡ bit (sum_of rows (chosen rows t v)) t
  pub to_state : (v : ℕ) → v < 2 ^ active_at rows t → leads_to c v ≡ state_of rows (firsts rows) (lasts rows) (suc t) (chosen rows t v)

pub section-agrees : (rows : List ℕ) → Spans rows (firsts rows) (lasts rows) → (t : ℕ) → Agrees rows t (section_of rows t)
section-agrees rows s t = record {
  states = live-count t rows;
  branches = doubled (section_of rows t).begins (section_of rows t).live ∙ ap (λ (n : ℕ). 2 ^ n) (active-count t rows s.rising);
  from_state = leaves-state t rows s.rising;
  spells = bit-sum t rows;
  to_state = leads-state t rows s.apart;
}
  where
    doubled : (b : Bool) (n : ℕ) → cond b (2 ^ n + 2 ^ n) (2 ^ n) ≡ 2 ^ more b n
    doubled true n = omega (arith, pow-suc 2 n)
    doubled false n = refl
