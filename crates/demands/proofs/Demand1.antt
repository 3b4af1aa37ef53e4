-- Demand 1: every public call takes every input, refuses exactly under the numbered conditions of document 01 in its order, and a refused
-- call changes nothing lent; a decode that succeeds zeroes the working room it needs and touches no more.
-- No public function has a `requires`: each takes every input, and replies as its promise says. Here a reply that meets the promise is given.
use Rattle.std.proofs.Common.{Result, Ok, Err, Option}
use lib.IntN.{nat_abs, pos, ℤ}
use lib.ListN.{drop, get_or, length, replicate}
use mathlib.Core.List.{◌++◌, List, [], ◌∷◌}
use mathlib.Core.Path.{ap, refl, subst, sym, ◌∙◌, ◌≡◌}
use native.Mathlib.Omega.{arith}
use Prim.Native.Nat.{◌<◌, ℕ, ◌≤◌}
use Rattle.coding.proofs.CodingDetermined.{encode-determined, read-back-determined}
use Rattle.coding.specs.Coding.{Encodes, ReadsBack, encode_conditions, read_conditions}
use Rattle.decoding.proofs.DecodeDetermined.{decode-determined}
use Rattle.decoding.specs.declared.Answer.{Answer}
use Rattle.decoding.specs.Decode.{Decodes, decision_need, decode_conditions, metric_need}
use Rattle.decoding.specs.Metric.{limit}
use Rattle.demands.specs.Refusing.{Numbered, RefusesExactly, WriteRefuses}
use Rattle.listings.proofs.Determined.{must-refuse}
use Rattle.listings.specs.declared.Tally.{Tally}
use Rattle.listings.specs.Lines.{line_of_end, least_line, no_least_line, plate_line, profile_line, refused_line, tally_line, weight_line, word_line}
use Rattle.listings.specs.Writing.{Writes, WritesAs, WritesEnd, WritesLeast, WritesLine, WritesNoLeast, WritesOf, WritesPlate, WritesProfile, WritesRefused}
use Rattle.listings.specs.Writing.{WritesTally, WritesWeight, WritesWord, entries_of, line_room}
use Rattle.plates.proofs.PrepareDetermined.{prepare-determined}
use Rattle.plates.proofs.Refusing.{Single, never_both}
use Rattle.plates.specs.Code.{InCode}
use Rattle.plates.specs.declared.Kind.{Kind}
use Rattle.plates.specs.declared.Plate.{Plate}
use Rattle.plates.specs.declared.Prepared.{Prepared}
use Rattle.plates.specs.declared.Refusal.{Refusal}
use Rattle.plates.specs.Prepare.{IsPrepared, Prepares, PreparesAs, not_prepared, prepare_conditions, zero_plate}
use Rattle.plates.specs.Refusals.{Passes, number}
use Rattle.plates.specs.Replying.{refused_with}
use Rattle.trellises.proofs.BranchDetermined.{branch-determined}
use Rattle.trellises.specs.Branching.{Branches, branch_conditions}

-- the number of a condition's refusal
pub its-number : {Holds : Type 0} {refusal : Refusal} (q : Refusal) → Holds × (q ≡ refusal) → number q ≡ number refusal
its-number q c = ap number c.1

-- it has no other
once : {Holds : Type 0} {refusal : Refusal} (p q : Refusal) → Holds × (p ≡ refusal) → Holds × (q ≡ refusal) → p ≡ q
once p q x y = x.1 ∙ sym y.1

-- ---- prepare: 1 to 3, 23, 4

module _ (n : ℕ) (kind : Kind) (rows : List ℕ) (mask : ℕ) where
  -- the conditions, in order: 23 stands after 3 and before 4
  pub prepare-numbers : Numbered (prepare_conditions n kind rows mask) (1 ∷ 2 ∷ 3 ∷ 23 ∷ 4 ∷ [])
  prepare-numbers = (its-number, (its-number, ((λ q c. ap number c.is), (its-number, ((λ q c. ap number c.is), tt)))))

  module _ (r : Prepared) (p : Prepares n kind rows mask r) where
    -- refused exactly under them
    pub prepare-refuses-exactly : RefusesExactly Err (prepare_conditions n kind rows mask) r.verdict
    prepare-refuses-exactly q = (
      (λ e. (subst (PreparesAs (prepare_conditions n kind rows mask) (InCode kind n rows) n mask r.plate) e p.reply).0),
      λ h. ap (λ (x : Prepared). x.verdict) (prepare-determined n kind rows mask r (refused_with q) p (record { reply = (h, refl) })),
    )

    -- a refused preparing has the zero plate beside it
    pub prepare-refused-zero : (q : Refusal) → r.verdict ≡ Err q → r.plate ≡ zero_plate
    prepare-refused-zero q e = (subst (PreparesAs (prepare_conditions n kind rows mask) (InCode kind n rows) n mask r.plate) e p.reply).1

-- ---- branch: 5, 12

module _ (plate : Plate) (depth state bit : ℕ) where
  -- the conditions, in order
  pub branch-numbers : Numbered (branch_conditions plate depth state bit) (5 ∷ 12 ∷ [])
  branch-numbers = (its-number, (its-number, tt))

  -- refused exactly under them
  pub branch-refuses-exactly : (r : Result (Option ℕ) Refusal) → Branches plate depth state bit r → RefusesExactly Err (branch_conditions plate depth state bit) r
  branch-refuses-exactly r p q =
      ((λ e. subst (Branches plate depth state bit) e p), λ h. branch-determined plate depth state bit r (Err q) p h)

-- ---- encode: 5, 13

module _ (plate : Plate) (information : ℕ) where
  -- the conditions, in order
  pub encode-numbers : Numbered (encode_conditions plate information) (5 ∷ 13 ∷ [])
  encode-numbers = (its-number, (its-number, tt))

  -- refused exactly under them
  pub encode-refuses-exactly : (r : Result ℕ Refusal) → Encodes plate information r → RefusesExactly Err (encode_conditions plate information) r
  encode-refuses-exactly r p q = ((λ e. subst (Encodes plate information) e p), λ h. encode-determined plate information r (Err q) p h)

-- ---- read back: 5, 14

module _ (plate : Plate) (word : ℕ) where
  -- the conditions, in order
  pub read-back-numbers : Numbered (read_conditions plate word) (5 ∷ 14 ∷ [])
  read-back-numbers = (its-number, (its-number, tt))

  -- refused exactly under them
  pub read-back-refuses-exactly : (r : Result ℕ Refusal) → ReadsBack plate word r → RefusesExactly Err (read_conditions plate word) r
  read-back-refuses-exactly r p q = ((λ e. subst (ReadsBack plate word) e p), λ h. read-back-determined plate word r (Err q) p h)

-- ---- decode: 5 to 9

module _ (plate : Plate) (samples metrics : List ℤ) (decisions : List ℕ) where
  -- the conditions, in order
  pub decode-numbers : Numbered (decode_conditions plate samples metrics decisions) (5 ∷ 6 ∷ 7 ∷ 8 ∷ 9 ∷ [])
  decode-numbers = (
    its-number,
    (its-number, ((λ q c. ap number c.is), (its-number, (its-number, tt)))),
  )

  -- where none of them holds: a prepared plate, n samples within the limit, and rooms that are long enough
  pub decode-passes : IsPrepared plate → length samples ≡ plate.n → ((i : ℕ) → i < length samples → nat_abs (get_or samples i (pos 0)) ≤ limit)
      → metric_need plate ≤ length metrics → decision_need plate ≤ length decisions → Passes (decode_conditions plate samples metrics decisions)
  decode-passes p size within m d = (
    (λ q c. c.0 p),
    (
      (λ q c. c.0 size),
      ((λ q c. omega (arith, c.over, within c.position c.there)), ((λ q c. omega (arith, c.0, m)), ((λ q c. omega (arith, c.0, d)), tt))),
    ),
  )

  -- the two rooms after the call, and its reply
  module _ (metrics' : List ℤ) (decisions' : List ℕ) (r : Result Answer Refusal) (p : Decodes plate samples metrics decisions metrics' decisions' r) where
    -- refused exactly under them
    pub decode-refuses-exactly : RefusesExactly Err (decode_conditions plate samples metrics decisions) r
    decode-refuses-exactly q = (
      (λ e. (subst (Decodes plate samples metrics decisions metrics' decisions') e p).0),
      λ h. (decode-determined plate samples metrics decisions r (Err q) metrics' metrics decisions' decisions p (h, refl, refl)).0,
    )

    -- where none of them holds the answer is found
    pub decode-passed-found : Passes (decode_conditions plate samples metrics decisions) → (a : Answer) × (r ≡ Ok a)
    decode-passed-found h = go r refl
      where
        go : (s : Result Answer Refusal) → r ≡ s → (a : Answer) × (r ≡ Ok a)
        go (Ok a) e = (a, e)
        go (Err q) e = absurd (never_both (decode_conditions plate samples metrics decisions) h q ((decode-refuses-exactly q).0 e))

    -- a refused decode changes nothing lent
    pub decode-refused-unchanged : (q : Refusal) → r ≡ Err q → (metrics' ≡ metrics) × (decisions' ≡ decisions)
    decode-refused-unchanged q e = let x = subst (Decodes plate samples metrics decisions metrics' decisions') e p in (x.1, x.2)

    -- one that succeeds zeroes the room it needs, and touches no more
    pub decode-found-zeroes : (a : Answer) → r ≡ Ok a
        → (metrics' ≡ replicate (metric_need plate) (pos 0) ++ drop (metric_need plate) metrics)
        × (decisions' ≡ replicate (decision_need plate) 0 ++ drop (decision_need plate) decisions)
    decode-found-zeroes a e =
        let x = subst (Decodes plate samples metrics decisions metrics' decisions') e p in (x.2.metrics_zero, x.2.decisions_zero)

-- ---- write: 5 where the line takes a plate, then 11

-- the conditions of a line that takes a plate
pub plate-line-numbers : (plate : Plate) (line room : List ℕ) → Numbered (not_prepared plate ∷ line_room line room ∷ []) (5 ∷ 11 ∷ [])
plate-line-numbers plate line room = (its-number, (its-number, tt))

-- the condition of one that takes none
pub line-numbers : (line room : List ℕ) → Numbered (line_room line room ∷ []) (11 ∷ [])
line-numbers line room = (its-number, tt)

-- each condition gives one refusal
pub plate-line-single : (plate : Plate) (line room : List ℕ) → Single (not_prepared plate ∷ line_room line room ∷ [])
plate-line-single plate line room = (once, (once, tt))

-- and so does the one
pub line-single : (line room : List ℕ) → Single (line_room line room ∷ [])
line-single line room = (once, tt)

-- whatever the conditions
write-refuses : (cs : List (Refusal → Type 0)) → Single cs → (line room : List ℕ) (r : Result ℕ Refusal) (room' : List ℕ) → Writes cs line room r room'
    → WriteRefuses cs room r room'
write-refuses cs single line room r room' w = (
  (λ q. ((λ e. (subst (WritesAs cs line room room') e w.reply).0), λ h. (must-refuse cs single line room w q h).0)),
  λ q e. (subst (WritesAs cs line room room') e w.reply).1,
)

module _ (room : List ℕ) (r : Result ℕ Refusal) (room' : List ℕ) where
  -- of a line that takes no plate
  of-line : (line : List ℕ) → WritesLine line room r room' → WriteRefuses (line_room line room ∷ []) room r room'
  of-line line = write-refuses _ (line-single line room) line room r room'

  -- of a line that takes one
  of-plate : (plate : Plate) (line : List ℕ) → WritesOf plate line room r room' → WriteRefuses (not_prepared plate ∷ line_room line room ∷ []) room r room'
  of-plate plate line = write-refuses _ (plate-line-single plate line room) line room r room'

  -- the line plate
  pub write-plate-refuses : (plate : Plate) → WritesPlate plate room r room'
      → WriteRefuses (not_prepared plate ∷ line_room (plate_line plate.n plate.k (entries_of plate)) room ∷ []) room r room'
  write-plate-refuses plate = of-plate plate (plate_line plate.n plate.k (entries_of plate))

  -- the line profile
  pub write-profile-refuses : (plate : Plate) → WritesProfile plate room r room'
      → WriteRefuses (not_prepared plate ∷ line_room (profile_line (entries_of plate)) room ∷ []) room r room'
  write-profile-refuses plate = of-plate plate (profile_line (entries_of plate))

  -- the line word
  pub write-word-refuses : (plate : Plate) (word : ℕ) (metric : ℤ) (additions comparisons : ℕ)
      → WritesWord plate word metric additions comparisons room r room'
      → WriteRefuses (not_prepared plate ∷ line_room (word_line plate.n word metric additions comparisons) room ∷ []) room r room'
  write-word-refuses plate word metric additions comparisons = of-plate plate (word_line plate.n word metric additions comparisons)

  -- the line refused
  pub write-refused-refuses : (number place field : ℕ) → WritesRefused number place field room r room'
      → WriteRefuses (line_room (refused_line number place field) room ∷ []) room r room'
  write-refused-refuses number place field = of-line (refused_line number place field)

  -- the line end
  pub write-end-refuses : (blocks : ℕ) → WritesEnd blocks room r room' → WriteRefuses (line_room (line_of_end blocks) room ∷ []) room r room'
  write-end-refuses blocks = of-line (line_of_end blocks)

  -- the line weight
  pub write-weight-refuses : (weight count : ℕ) → WritesWeight weight count room r room'
      → WriteRefuses (line_room (weight_line weight count) room ∷ []) room r room'
  write-weight-refuses weight count = of-line (weight_line weight count)

  -- the line least
  pub write-least-refuses : (weight : ℕ) → WritesLeast weight room r room' → WriteRefuses (line_room (least_line weight) room ∷ []) room r room'
  write-least-refuses weight = of-line (least_line weight)

  -- the line that says there is none
  pub write-no-least-refuses : WritesNoLeast room r room' → WriteRefuses (line_room no_least_line room ∷ []) room r room'
  write-no-least-refuses = of-line no_least_line

  -- the line tally
  pub write-tally-refuses : (tally : Tally) → WritesTally tally room r room' → WriteRefuses (line_room (tally_line tally) room ∷ []) room r room'
  write-tally-refuses tally = of-line (tally_line tally)
