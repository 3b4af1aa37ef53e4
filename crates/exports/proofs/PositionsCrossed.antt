-- All positions of a block, one after the other: what is refused is refused at the first, and each is as firmness tells it; the call is determined.
use Rattle.std.proofs.Common.{Result, Ok, Err}
use lib.IntN.{pos, ℤ}
use lib.ListN.{drop, get_or, length, length-append, length-replicate, length-set, replicate, set}
use lib.Seq.{drop_at, ext_get_or, get_or-set_other, get_or-set_same}
use mathlib.Core.List.{◌++◌, List}
use mathlib.Core.Logic.{inl, inr}
use mathlib.Core.Path.{ap, ap₂, refl, subst, sym, ◌∙◌, ◌≡◌}
use native.Mathlib.Decide.{dec_lt}
use native.Mathlib.Omega.{arith}
use Prim.Native.Nat.{◌+◌, ◌<◌, ℕ, ◌≤◌}
use Rattle.decoding.proofs.DecodeDetermined.{single}
use Rattle.decoding.proofs.FirmnessDetermined.{firmness-determined}
use Rattle.decoding.specs.Decode.{Zeroed, decision_need, decode_conditions, metric_need}
use Rattle.decoding.specs.declared.firmness.Flag.{Flag}
use Rattle.decoding.specs.Firmness.{TellsFirmness, firmness_conditions, value}
use Rattle.exports.proofs.CallsDetermined.{calls-determined}
use Rattle.exports.specs.Calls.{Crossing, RefusedAt, done}
use Rattle.exports.specs.Flat.{plate_of}
use Rattle.exports.specs.Judging.{ReadingPut, fixed_cell}
use Rattle.exports.specs.Reading.{CallsFirmnessAll, FirmRooms, PositionCells, PositionShape, Reading, TellsEach, firm_rooms, position_cells, read_as}
use Rattle.exports.specs.Reading.{EachFirm, FirmAt, PositionPut, PutsPosition, ReadTo}
use Rattle.plates.proofs.Refusing.{never_both, refuses-once}
use Rattle.plates.proofs.SoundIsPrepared.{sound}
use Rattle.plates.specs.declared.Plate.{Plate}
use Rattle.plates.specs.declared.Refusal.{Refusal}
use Rattle.plates.specs.declared.Refusal.TheVariants.{NotPrepared}
use Rattle.plates.specs.Prepare.{IsPrepared}
use Rattle.plates.specs.Refusals.{Passes, Refuses}

-- ---- one position, by the reply of firmness

module _ (plate : Plate) (samples : List ℤ) (i : ℕ) where
  -- its flag is in its cells
  pub position-put : (lent lent' : FirmRooms) (reply : Result Flag Refusal)
      → TellsFirmness plate samples i lent.metrics lent.decisions lent'.metrics lent'.decisions reply → {flag : Flag} → reply ≡ Ok flag
      → ReadingPut flag.reading i lent.fixed lent.values lent'.fixed lent'.values → PositionPut plate samples i lent lent'
  position-put lent lent' reply p {flag} e laid = record {
    flag = flag;
    told = subst (TellsFirmness plate samples i lent.metrics lent.decisions lent'.metrics lent'.decisions) e p;
    fixed_is = laid.fixed_is;
    value_is = laid.value_is;
  }

  -- there is none, and the cells are as they were
  pub position-refused : (metrics metrics' : List ℤ) (decisions decisions' fixed : List ℕ) (values : List ℤ) (reply : Result Flag Refusal)
      → TellsFirmness plate samples i metrics decisions metrics' decisions' reply → {q : Refusal} → reply ≡ Err q
      → PutsPosition plate samples i (firm_rooms metrics decisions fixed values) (firm_rooms metrics' decisions' fixed values) (Err q)
  position-refused metrics metrics' decisions decisions' fixed values reply p e =
      (subst (TellsFirmness plate samples i metrics decisions metrics' decisions') e p, refl, refl)

  -- by what the reply is known to be
  pub put_as : (lent lent' : FirmRooms) (reply : Result (Unit {0}) Refusal) → PutsPosition plate samples i lent lent' reply → {known : Result (Unit {0}) Refusal} → reply ≡ known
      → PutsPosition plate samples i lent lent' known
  put_as lent lent' reply p e = subst (PutsPosition plate samples i lent lent') e p

-- rooms whose needed part is zero, and is put to zero again
zeroed-again : {plate : Plate} {metrics metrics' metrics'' : List ℤ} {decisions decisions' decisions'' : List ℕ}
    → Zeroed plate metrics metrics' decisions decisions' → Zeroed plate metrics' metrics'' decisions' decisions''
    → Zeroed plate metrics metrics'' decisions decisions''
zeroed-again {plate} {metrics} {decisions = decisions} z y = record {
  metrics_zero = y.metrics_zero ∙ ap (λ (l : List ℤ). replicate (metric_need plate) (pos 0) ++ l)
      (ap (drop (metric_need plate)) z.metrics_zero
      ∙ drop_at (replicate (metric_need plate) (pos 0)) (drop (metric_need plate) metrics) (metric_need plate) (length-replicate (metric_need plate) (pos 0)));
  decisions_zero = y.decisions_zero ∙ ap (λ (l : List ℕ). replicate (decision_need plate) 0 ++ l)
      (ap (drop (decision_need plate)) z.decisions_zero
      ∙ drop_at (replicate (decision_need plate) 0) (drop (decision_need plate) decisions) (decision_need plate)
      (length-replicate {A = ℕ} (decision_need plate) 0));
}

module _ {plate : Plate} {samples : List ℤ} where
  -- ---- the refusals of decoding and those of firmness at a position

  module _ (metrics : List ℤ) (decisions : List ℕ) where
    pub as-firmness : {i : ℕ} → Passes (decode_conditions plate samples metrics decisions) → i < plate.n
        → Passes (firmness_conditions plate samples i metrics decisions)
    as-firmness p l = (p.0, (p.1.0, (p.1.1.0, ((λ q b. omega (arith, b.0)), p.1.1.1))))

    pub as-decoding : {i : ℕ} → Passes (firmness_conditions plate samples i metrics decisions) → Passes (decode_conditions plate samples metrics decisions)
    as-decoding p = (p.0, (p.1.0, (p.1.1.0, p.1.1.1.1)))

    -- 21 does not come at position 0: a plate of no position is refused by 5
    pub refused-first : {q : Refusal} → Refuses (firmness_conditions plate samples 0 metrics decisions) q
        → Refuses (decode_conditions plate samples metrics decisions) q
    refused-first (inl x) = inl x
    refused-first (inr (a, inl x)) = inr (a, inl x)
    refused-first (inr (a, inr (b, inl x))) = inr (a, inr (b, inl x))
    refused-first (inr (a, inr (b, inr (c, inl x)))) =
        absurd (a NotPrepared ((λ (given : IsPrepared plate). omega (arith, (sound given).positive, x.0)), refl))
    refused-first (inr (a, inr (b, inr (c, inr (d, x))))) = inr (a, inr (b, inr (c, x)))

  -- rooms whose needed part is zero are as long as is needed
  module _ {metrics metrics' : List ℤ} {decisions decisions' : List ℕ} (z : Zeroed plate metrics metrics' decisions decisions') where
    still-passes : Passes (decode_conditions plate samples metrics decisions) → Passes (decode_conditions plate samples metrics' decisions')
    still-passes p = (p.0, (p.1.0, (p.1.1.0, ((λ q b. omega (arith, b.0, metrics-there)), ((λ q b. omega (arith, b.0, decisions-there)), tt)))))
      where
        metrics-there : metric_need plate ≤ length metrics'
        metrics-there =
            omega (
              arith,
              ap length z.metrics_zero ∙ length-append (replicate (metric_need plate) (pos 0)) (drop (metric_need plate) metrics),
              length-replicate (metric_need plate) (pos 0),
            )

        decisions-there : decision_need plate ≤ length decisions'
        decisions-there =
            omega (
              arith,
              ap length z.decisions_zero ∙ length-append (replicate (decision_need plate) 0) (drop (decision_need plate) decisions),
              length-replicate {A = ℕ} (decision_need plate) 0,
            )

  -- ---- one position more

  none_yet : {fixed : List ℕ} {values : List ℤ} → EachFirm plate samples 0 fixed values fixed values
  none_yet = record { fixed_size = refl; values_size = refl; each = λ i l. absurd (omega arith); fixed_behind = λ i l. refl; values_behind = λ i l. refl }

  module _ {fixed fixed' : List ℕ} {values values' : List ℤ} {i f : ℕ} {v : ℤ} (e : EachFirm plate samples i fixed values fixed' values')
      (here : FirmAt plate samples i f v) (there : i < length fixed) (there' : i < length values) where
    one_more : EachFirm plate samples (i + 1) fixed values (set fixed' i f) (set values' i v)
    one_more = record {
      fixed_size = length-set fixed' i f ∙ e.fixed_size;
      values_size = length-set values' i v ∙ e.values_size;
      each = λ j l. at j l (dec_lt j i);
      fixed_behind = λ j l. get_or-set_other fixed' i j f 0 (λ same. omega (arith, same)) ∙ e.fixed_behind j (omega arith);
      values_behind = λ j l. get_or-set_other values' i j v (pos 0) (λ same. omega (arith, same)) ∙ e.values_behind j (omega arith);
    }
      where
        at : (j : ℕ) → j < i + 1 → Dec (j < i) → FirmAt plate samples j (get_or (set fixed' i f) j 0) (get_or (set values' i v) j (pos 0))
        at j l (yes k) =
            let old = e.each j k in
            record {
              flag = old.flag;
              right = old.right;
              fixed_is = get_or-set_other fixed' i j f 0 (λ same. omega (arith, same)) ∙ old.fixed_is;
              value_is = get_or-set_other values' i j v (pos 0) (λ same. omega (arith, same)) ∙ old.value_is;
            }
        at j l (no k) =
            let same : i ≡ j = omega arith in
            subst (λ (x : ℕ). FirmAt plate samples x (get_or (set fixed' i f) x 0) (get_or (set values' i v) x (pos 0))) same (record {
              flag = here.flag;
              right = here.right;
              fixed_is = get_or-set_same fixed' i f 0 (omega (arith, e.fixed_size)) ∙ here.fixed_is;
              value_is = get_or-set_same values' i v (pos 0) (omega (arith, e.values_size)) ∙ here.value_is;
            })

  module _ {i : ℕ} (lent : FirmRooms) {rooms rooms' : FirmRooms} where
    -- the cells of a position that was put
    put_on : EachFirm plate samples i lent.fixed lent.values rooms.fixed rooms.values → PositionPut plate samples i rooms rooms'
        → i < length lent.fixed → i < length lent.values
        → EachFirm plate samples (i + 1) lent.fixed lent.values rooms'.fixed rooms'.values
    put_on e p l k =
        subst (λ (f : List ℕ). EachFirm plate samples (i + 1) lent.fixed lent.values f rooms'.values) (sym p.fixed_is)
        (subst (λ (v : List ℤ). EachFirm plate samples (i + 1) lent.fixed lent.values (set rooms.fixed i (fixed_cell p.flag.reading)) v)
        (sym p.value_is)
        (one_more e (record { flag = p.flag; right = p.told.1; fixed_is = refl; value_is = refl }) l k))

    -- a position after others: it is not refused
    pub read-on : (reply : Result (Unit {0}) Refusal) → ReadTo plate samples i lent rooms → PutsPosition plate samples i rooms rooms' reply → i < plate.n
        → i < length rooms.fixed → i < length rooms.values → ReadTo plate samples (i + 1) lent rooms'
    read-on reply r p n l k = go reply p
      where
        go : (s : Result (Unit {0}) Refusal) → PutsPosition plate samples i rooms rooms' s → ReadTo plate samples (i + 1) lent rooms'
        go (Ok _) x = record {
          passes = r.passes;
          firm = put_on r.firm x (omega (arith, r.firm.fixed_size)) (omega (arith, r.firm.values_size));
          zeroed = zeroed-again r.zeroed x.told.2;
        }
        go (Err q) x =
            absurd
            (never_both (firmness_conditions plate samples i rooms.metrics rooms.decisions)
            (as-firmness rooms.metrics rooms.decisions (still-passes r.zeroed r.passes) n) q x.0.0)

  module _ {rooms rooms' : FirmRooms} where
    -- position 0, before which nothing was put
    pub read_first : PositionPut plate samples 0 rooms rooms' → 0 < length rooms.fixed → 0 < length rooms.values → ReadTo plate samples 1 rooms rooms'
    read_first p l k = record { passes = as-decoding rooms.metrics rooms.decisions p.told.0; firm = put_on rooms none_yet p l k; zeroed = p.told.2 }

    -- the plate has a position, and at most 64
    pub some-positions : PositionPut plate samples 0 rooms rooms' → (1 ≤ plate.n) × (plate.n ≤ 64)
    some-positions p = (low (dec_lt 0 plate.n), high (dec_lt 64 plate.n))
      where
        given : (IsPrepared plate → ⊥) → ⊥
        given no-plate = p.told.0.0 NotPrepared (no-plate, refl)

        low : Dec (0 < plate.n) → 1 ≤ plate.n
        low (yes l) = omega arith
        low (no l) = absurd (given (λ x. omega (arith, (sound x).positive)))

        high : Dec (64 < plate.n) → plate.n ≤ 64
        high (yes l) = absurd (given (λ x. omega (arith, (sound x).short)))
        high (no l) = omega arith

-- ---- how it crosses

module _ (samples : List ℤ) (lent : PositionCells) (words : List ℕ)
    (shape : PositionShape (length words) (length lent.rooms.fixed) (length lent.rooms.values) (length lent.at)) (rooms' : FirmRooms) where
  -- a code and cells that the reply crosses as
  crossed : (reply : Result (Unit {0}) Refusal) {out : Crossing PositionCells} → TellsEach (plate_of words) samples lent.rooms rooms' reply → out ≡ read_as lent.at rooms' reply
      → CallsFirmnessAll words samples lent out.code out.cells
  crossed reply p e = record { by_shape = inr (shape, record { reply = record { reply = reply; rooms = rooms' }; promised = p; crosses = e }) }

  -- the readings are in their cells
  pub positions-read : ReadTo (plate_of words) samples (plate_of words).n lent.rooms rooms'
      → CallsFirmnessAll words samples lent done (position_cells rooms' (set lent.at 0 0))
  positions-read p = crossed (Ok tt) p refl

  -- the place is in its cell
  pub positions-refused : {q : Refusal} {r : ℕ} {at' : List ℕ} → PutsPosition (plate_of words) samples 0 lent.rooms rooms' (Err q)
      → RefusedAt q lent.at r at' → CallsFirmnessAll words samples lent r (position_cells rooms' at')
  positions-refused {q} p f =
      crossed (Err q) (refused-first lent.rooms.metrics lent.rooms.decisions p.0.0, still)
      (ap₂ (λ (x : ℕ) (a : List ℕ). record { code = x; cells = position_cells rooms' a }) f.number_is f.place_is)
    where
      still : rooms' ≡ lent.rooms
      still =
          ap₂ (λ (m : List ℤ) (d : List ℕ). record { metrics = m; decisions = d; fixed = rooms'.fixed; values = rooms'.values }) p.0.1 p.0.2
          ∙ ap₂ (λ (f : List ℕ) (v : List ℤ). record { metrics = lent.rooms.metrics; decisions = lent.rooms.decisions; fixed = f; values = v })
          p.1 p.2

-- ---- determined

module _ (plate : Plate) (samples : List ℤ) (lent : FirmRooms) where
  -- what is read of a position is a reply of firmness at it, from the rooms as they were lent
  pub told_at : {rooms : FirmRooms} {i f : ℕ} {v : ℤ} → ReadTo plate samples plate.n lent rooms → i < plate.n → (x : FirmAt plate samples i f v)
      → TellsFirmness plate samples i lent.metrics lent.decisions rooms.metrics rooms.decisions (Ok x.flag)
  told_at r l x = (as-firmness lent.metrics lent.decisions r.passes l, x.right, r.zeroed)

  module _ {one two : FirmRooms} (a : ReadTo plate samples plate.n lent one) (b : ReadTo plate samples plate.n lent two) where
    -- so two of them are of one flag
    flag_same : {i f g : ℕ} {v w : ℤ} → i < plate.n → (x : FirmAt plate samples i f v) (y : FirmAt plate samples i g w) → x.flag ≡ y.flag
    flag_same {i} l x y =
        let same =
        firmness-determined plate samples i lent.metrics lent.decisions (Ok x.flag) (Ok y.flag) one.metrics two.metrics
        one.decisions two.decisions (told_at a l x) (told_at b l y) in
        let e : Ok x.flag ≡ Ok y.flag = same.0 in
        let f : x.flag ≡ y.flag = cc in
        f

    fixed_same : (i : ℕ) → Dec (i < plate.n) → get_or one.fixed i 0 ≡ get_or two.fixed i 0
    fixed_same i (yes l) =
        let x = a.firm.each i l in
        let y = b.firm.each i l in
        x.fixed_is ∙ ap (λ (f : Flag). fixed_cell f.reading) (flag_same l x y) ∙ sym y.fixed_is
    fixed_same i (no l) = a.firm.fixed_behind i (omega arith) ∙ sym (b.firm.fixed_behind i (omega arith))

    value_same : (i : ℕ) → Dec (i < plate.n) → get_or one.values i (pos 0) ≡ get_or two.values i (pos 0)
    value_same i (yes l) =
        let x = a.firm.each i l in
        let y = b.firm.each i l in
        x.value_is ∙ ap (λ (f : Flag). value f.reading) (flag_same l x y) ∙ sym y.value_is
    value_same i (no l) = a.firm.values_behind i (omega arith) ∙ sym (b.firm.values_behind i (omega arith))

    rooms_same : one ≡ two
    rooms_same =
        ap₂ (λ (m : List ℤ) (d : List ℕ). record { metrics = m; decisions = d; fixed = one.fixed; values = one.values })
        (a.zeroed.metrics_zero ∙ sym b.zeroed.metrics_zero) (a.zeroed.decisions_zero ∙ sym b.zeroed.decisions_zero)
        ∙ ap₂ (λ (f : List ℕ) (v : List ℤ). record { metrics = two.metrics; decisions = two.decisions; fixed = f; values = v })
        (ext_get_or 0 one.fixed two.fixed (a.firm.fixed_size ∙ sym b.firm.fixed_size) (λ i l. fixed_same i (dec_lt i plate.n)))
        (ext_get_or (pos 0) one.values two.values (a.firm.values_size ∙ sym b.firm.values_size) (λ i l. value_same i (dec_lt i plate.n)))

  abbrev conditions : List (Refusal → Type 0)
  conditions = decode_conditions plate samples lent.metrics lent.decisions

  positions-determined : (r s : Result (Unit {0}) Refusal) (one two : FirmRooms) → TellsEach plate samples lent one r → TellsEach plate samples lent two s → (r ≡ s) × (one ≡ two)
  positions-determined (Ok _) (Ok _) one two a b = (refl, rooms_same a b)
  positions-determined (Ok _) (Err q) one two a b = absurd (never_both conditions a.passes q b.0)
  positions-determined (Err p) (Ok _) one two a b = absurd (never_both conditions b.passes p a.0)
  positions-determined (Err p) (Err q) one two a b =
      (ap (λ (x : Refusal). Err x) (refuses-once conditions (single plate samples lent.metrics lent.decisions) p q a.0 b.0), a.1 ∙ sym b.1)

pub firmness-all-call-determined : (words : List ℕ) (samples : List ℤ) (lent a b : PositionCells) (r s : ℕ) → CallsFirmnessAll words samples lent r a
    → CallsFirmnessAll words samples lent s b → ◌≡◌ {A = Crossing PositionCells} (record { code = r; cells = a }) (record { code = s; cells = b })
firmness-all-call-determined words samples lent a b r s = calls-determined one
  where
    one : (x y : Reading) → TellsEach (plate_of words) samples lent.rooms x.rooms x.reply
        → TellsEach (plate_of words) samples lent.rooms y.rooms y.reply → x ≡ y
    one x y p q =
        let same = positions-determined (plate_of words) samples lent.rooms x.reply y.reply x.rooms y.rooms p q in
        ap₂ (λ (u : Result (Unit {0}) Refusal) (m : FirmRooms). record { reply = u; rooms = m }) same.0 same.1
