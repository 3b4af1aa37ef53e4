-- Texts put one before the other.
use borrow.Rule.Slice.PartMut.{mid_len, post_of, Post-is, put_mid, same_len_mid}
use lib.ListN.{drop, length, length-append, length-replicate, length-set, replicate, set, take}
use lib.Seq.{drop_at, drop-cons, drop-set-lt, get_or-set_same, length-take-le}
use mathlib.Core.List.{◌++◌, List, [], append_assoc, append-nil, ◌∷◌}
use mathlib.Core.Path.{ap, ap₂, refl, sym, ◌∙◌, ◌≡◌}
use native.Mathlib.Omega.{arith}
use Prim.Native.Nat.{◌-◌, ◌<◌, suc, ℕ, ◌≤◌}
use Rattle.listings.specs.Building.{Ends, HasRoom, Prepends}

-- nothing is put
pub prepend-none : (d : List ℕ) (end : ℕ) → Prepends d end [] d end
prepend-none d end = record { same_size = refl; begins = λ h. omega arith; stands = λ h. refl }

-- no room, nothing promised
pub prepend-full : (d : List ℕ) (end byte : ℕ) → (end ≤ 256 → end ≡ 0) → Prepends d end (byte ∷ []) d end
prepend-full d end byte f = record {
  same_size = refl;
  begins = λ h. (let z : end ≡ 0 = f h.within in absurd (omega (arith, h.room)));
  stands = λ h. (let z : end ≡ 0 = f h.within in absurd (omega (arith, h.room)));
}

-- one byte
pub prepend-one : (d : List ℕ) (end byte : ℕ) → 0 < end → end ≤ 256 → Prepends d end (byte ∷ []) (set d (end - 1) byte) (end - 1)
prepend-one d end byte p q = record {
  same_size = length-set d (end - 1) byte;
  begins = λ h. omega arith;
  stands = λ h. (
      let i : end - 1 < length d = omega (arith, h.size) in
      let e : suc (end - 1) ≡ end = omega arith in
      drop-cons (set d (end - 1) byte) (end - 1) 0 (rw length-set i)
      ∙ ap₂ ◌∷◌ (get_or-set_same d (end - 1) byte 0 i) (rw e (drop-set-lt end d (end - 1) byte (omega arith))));
}

-- a text, copied
pub prepend-copied : (d t copied : List ℕ) (end : ℕ) → length d ≡ 256 → end ≤ 256 → length t ≤ end → copied ≡ t
    → Prepends d end t (put_mid (end - length t) (end - (end - length t)) d copied) (end - length t)
prepend-copied d t copied end s w r e =
    let a = end - length t in
    let within : end ≤ length d = omega (arith, s) in
    let as_many : length copied ≡ end - a = omega (arith, ap length e, r) in
    record {
      same_size = same_len_mid a (end - a) d copied (as_many ∙ sym (mid_len a end d within));
      begins = λ h. omega (arith, r);
      stands = λ h. (drop_at (take a d) (copied ++ post_of a (end - a) d) a (length-take-le a d (omega (arith, within, r)))
          ∙ ap₂ ◌++◌ e (Post-is a end d (omega (arith, r))));
    }

-- a text, and then one before it
infixl 35 ◌▹◌
pub ◌▹◌ : {d e f t u : List ℕ} {end m r : ℕ} → Prepends d end t e m → Prepends e m u f r → Prepends d end (u ++ t) f r
◌▹◌ {d} {e} {f} {t} {u} {end} {m} {r} p q = record {
  same_size = q.same_size ∙ p.same_size;
  begins = λ h. omega (arith, p.begins (first h), q.begins (second h), length-append u t);
  stands = λ h. q.stands (second h) ∙ ap (λ (l : List ℕ). u ++ l) (p.stands (first h)) ∙ rw append_assoc;
}
  where
    first : HasRoom d end (u ++ t) → HasRoom d end t
    first h = record { size = h.size; within = h.within; room = omega (arith, h.room, length-append u t) }

    second : HasRoom d end (u ++ t) → HasRoom e m u
    second h = record {
      size = p.same_size ∙ h.size;
      within = omega (arith, p.begins (first h), h.within);
      room = omega (arith, p.begins (first h), h.room, length-append u t);
    }

-- ---- a line of at most 256 bytes, put before the end of an array of zeros

module _ {line array : List ℕ} {at : ℕ} (short : length line ≤ 256) (put : Prepends (replicate 256 0) 256 line array at) where
  -- it has room there
  zeros-room : HasRoom (replicate 256 0) 256 line
  zeros-room = record { size = length-replicate {A = ℕ} 256 0; within = omega arith; room = short }

  -- it ends with the array
  pub built-ends : Ends array at
  built-ends = record { size = put.same_size ∙ length-replicate {A = ℕ} 256 0; within = omega (arith, put.begins zeros-room) }

  -- and is all that stands from its beginning on
  pub built-stands : drop at array ≡ line
  built-stands = put.stands zeros-room ∙ append-nil line
