-- The replies of `count_weights`, case by case.
use Rattle.std.proofs.Common.{Ok, Err, Option, Some, None}
use lib.Arith.{bin_ind}
use lib.Count.{ones, ones_step}
use lib.ListN.{drop, get_or, length, replicate, take}
use lib.Seq.{length-take-le}
use mathlib.Core.Bool.{Bool, false, true}
use mathlib.Core.List.{◌++◌, List}
use mathlib.Core.Logic.{inl, inr, ◌⊎◌}
use mathlib.Core.Path.{ap, refl, subst, sym, ◌∙◌, ◌≡◌}
use mir.Syntax.{w64}
use mir.Val.{Fits}
use native.Mathlib.Decide.{dec_lt}
use native.Mathlib.Omega.{arith}
use Prim.Native.Nat.{◌*◌, ◌+◌, ◌/◌, ◌<◌, ◌^◌, ℕ, ◌≤◌}
use Rattle.decoding.proofs.PlateSizes.{entry-widest, plate-sizes-fit, profile-fits}
use Rattle.decoding.specs.Decode.{widest}
use Rattle.decoding.specs.Needs.{ProfileFits, widest_entry}
use Rattle.plates.proofs.SoundIsPrepared.{sound, used-rows}
use Rattle.plates.specs.declared.Plate.{Plate}
use Rattle.plates.specs.declared.Refusal.TheVariants.{MetricRoom, NotPrepared, WholeSpace}
use Rattle.plates.specs.Prepare.{IsPrepared, Tests, rows_of}
use Rattle.plates.specs.Refusals.{Passes}
use Rattle.trellises.proofs.PlateTrellis.{plate-spans}
use Rattle.weights.proofs.CountPairs.{number-some, number-zero}
use Rattle.weights.proofs.PlateWeights.{codeword-below, tally-fits, ways-number, weight-most}
use Rattle.weights.specs.Rooms.{FirstAbove, LeastAbove, TestsRooms}
use Rattle.weights.specs.Tallying.{Counted, TallyFits}
use Rattle.weights.specs.Weights.{CountsWeights, Filled, LeastWeight, NumberOfWeight, OfWeight, TellsNeed, weight_conditions, working_need}
use Rattle.words.proofs.Ends.{some-pos}
use Rattle.words.proofs.Sums.{in_row}
use Rattle.words.specs.Ends.{firsts}
use Rattle.words.specs.Sum.{IsSum}

-- a word with no ones is 0
pub ones_none : (x : ℕ) → ones x ≡ 0 → x ≡ 0
ones_none =
    bin_ind (λ (x : ℕ). ones x ≡ 0 → x ≡ 0) (λ e. refl)
    (λ x ih e. let z : x / 2 ≡ 0 = ih (omega (arith, e, ones_step x)) in omega (arith, e, ones_step x))

-- the room that the profile asks for
pub half_is : (plate : Plate) → IsPrepared plate → 2 ^ widest_entry plate.profile plate.n * 65 ≡ 2 ^ widest plate * 65
half_is plate given = ap (λ (m : ℕ). 2 ^ m * 65) (entry-widest plate given)

-- a room that is too short by another name of its need
pub by-need : {A : Type 0} {a m n : ℕ} → m ≡ n → A ⊎ (a < m) → A ⊎ (a < n)
by-need e (inl h) = inl h
by-need e (inr h) = inr (omega arith)

module _ (plate : Plate) (counts working : List ℕ) where
  pub refused-5 : (IsPrepared plate → ⊥) → CountsWeights plate counts working counts working (Err NotPrepared)
  refused-5 n = (inl (n, refl), refl, refl)

  module _ (given : IsPrepared plate) where
    pub refused-22 : plate.k ≡ 64 → CountsWeights plate counts working counts working (Err WholeSpace)
    refused-22 e = (inr ((λ q b. b.0 given), inl (e, refl)), refl, refl)

    module _ (not_whole : plate.k ≡ 64 → ⊥) where
      pub refused-8 : (length counts < 65) ⊎ (length working < working_need plate) → CountsWeights plate counts working counts working (Err MetricRoom)
      refused-8 h = (inr ((λ q b. b.0 given), inr ((λ q b. not_whole b.0), inl (h, refl))), refl, refl)

      pub not-64 : plate.k < 64
      not-64 = go (dec_lt plate.k 64)
        where
          go : Dec (plate.k < 64) → plate.k < 64
          go (yes h) = h
          go (no h) = absurd (not_whole (omega (arith, (sound given).few)))

      module _ (count_room : 65 ≤ length counts) (working-room : working_need plate ≤ length working) where
        passes : Passes (weight_conditions plate counts working)
        passes = ((λ q b. b.0 given), ((λ q b. not_whole b.0), ((λ q b. short b.0), tt)))
          where
            short : (length counts < 65) ⊎ (length working < working_need plate) → ⊥
            short (inl h) = omega arith
            short (inr h) = omega (arith, h, working-room)

        module _ (counts' : List ℕ) (k : Counted (rows_of plate) plate.n counts counts') where
          numbers : (w : ℕ) → w < 65 → NumberOfWeight plate w (get_or counts' w 0)
          numbers w h = subst (NumberOfWeight plate w) (sym (k.here w h)) (ways-number plate given w)

          none-beyond : (w : ℕ) → plate.n < w → w < 65 → get_or counts' w 0 ≡ 0
          none-beyond w l h = go (dec_lt 0 (get_or counts' w 0))
            where
              go : Dec (0 < get_or counts' w 0) → get_or counts' w 0 ≡ 0
              go (yes p) = let x = number-some (numbers w h) p in absurd (omega (arith, l, weight-most plate given x.2))
              go (no p) = omega arith

          filled : (need : ℕ) → need ≡ working_need plate → (working' : List ℕ) → working' ≡ replicate need 0 ++ drop need working
              → Filled plate counts working counts' working'
          filled need e working' z = record {
            size = k.size;
            here = numbers;
            beyond = none-beyond;
            behind = k.behind;
            zeroed = z ∙ ap (λ (m : ℕ). replicate m 0 ++ drop m working) e;
          }

          module _ (r : ℕ) (f : FirstAbove counts' r) where
            -- no codeword has a weight above zero and below r
            none_below : (x v : ℕ) → OfWeight plate v x → 0 < v → v < r → ⊥
            none_below x v p a l =
                number-zero (numbers v (omega (arith, f.within))) (f.none v a l) x (codeword-below plate given p.codeword) p

            least : r < 65 → LeastWeight plate r
            least h =
                let x = number-some (numbers r h) (f.some h) in
                record { word = x.0; has = x.2; above = f.above; smallest = λ y v p a. go y v p a (dec_lt v r) }
              where
                go : (y v : ℕ) → OfWeight plate v y → 0 < v → Dec (v < r) → r ≤ v
                go y v p a (yes l) = absurd (none_below y v p a l)
                go y v p a (no l) = omega arith

            -- where all rows are left out there is none; and the first row would have one
            only_zero : 65 ≤ r → plate.k ≡ 0
            only_zero h = go (dec_lt 0 plate.k)
              where
                row : IsSum (rows_of plate) (get_or (rows_of plate) 0 0)
                row = in_row (rows_of plate) 0

                first : OfWeight plate (ones (get_or (rows_of plate) 0 0)) (get_or (rows_of plate) 0 0)
                first = record { codeword = row; weight = refl }

                some : 0 < plate.k → 0 < get_or (rows_of plate) 0 0
                some l =
                    some-pos (get_or (rows_of plate) 0 0) (firsts (rows_of plate) 0)
                    ((plate-spans plate given).first 0 (omega (arith, l, used-rows plate (sound given).few (sound given).table))).one

                weighs : 0 < plate.k → Dec (0 < ones (get_or (rows_of plate) 0 0)) → ⊥
                weighs l (yes a) = none_below _ _ first a (omega (arith, h, weight-most plate given first, (sound given).short))
                weighs l (no a) = omega (arith, some l, ones_none (get_or (rows_of plate) 0 0) (omega arith))

                go : Dec (0 < plate.k) → plate.k ≡ 0
                go (yes l) = absurd (weighs l (dec_lt 0 (ones (get_or (rows_of plate) 0 0))))
                go (no l) = omega arith

            module _ (need : ℕ) (e : need ≡ working_need plate) (working' : List ℕ) (z : working' ≡ replicate need 0 ++ drop need working) where
              pub counted-least : r < 65 → CountsWeights plate counts working counts' working' (Ok (Some r))
              counted-least h = (passes, least h, filled need e working' z)

              pub counted_none : 65 ≤ r → CountsWeights plate counts working counts' working' (Ok None)
              counted_none h = (passes, only_zero h, filled need e working' z)

-- ---- by the promises of what `count_weights_parts` calls

-- nothing is refused: the plate is tested, and both rooms are long enough
pub record Ready (plate : Plate) (half : ℕ) (counts working : List ℕ) : Type 0 where
  pub plate_given : IsPrepared plate
  pub half_widest : half ≡ 2 ^ widest plate * 65
  pub not_whole : plate.k ≡ 64 → ⊥
  pub counts_there : 65 ≤ length counts
  pub working_there : half + half ≤ length working

module _ {plate : Plate} {p : Bool} (t : Tests plate p) where
  pub need-none : p ≡ false → TellsNeed plate 0
  need-none e = record { prepared_is = λ g. absurd (t.no_is e g); other_is = λ n. refl }

  pub unprepared : (counts working : List ℕ) → p ≡ false → CountsWeights plate counts working counts working (Err NotPrepared)
  unprepared counts working e = refused-5 plate counts working (t.no_is e)

  module _ (e : p ≡ true) where
    given : IsPrepared plate
    given = t.yes_is e

    pub profile-long : plate.n < length plate.profile
    profile-long = omega (arith, (sound given).short, (sound given).entries)

    pub entries-small : ProfileFits plate.profile plate.n
    entries-small = profile-fits plate given

    pub rows-count : plate.k ≡ length (rows_of plate)
    rows-count = sym (used-rows plate (sound given).few (sound given).table)

    pub whole-space : (counts working : List ℕ) → plate.k ≡ 64 → CountsWeights plate counts working counts working (Err WholeSpace)
    whole-space counts working = refused-22 plate counts working given

    -- the half that was found
    module _ {half : ℕ} (h : half ≡ 2 ^ widest_entry plate.profile plate.n * 65) where
      widest-half : half ≡ 2 ^ widest plate * 65
      widest-half = h ∙ half_is plate given

      need-is : half + half ≡ working_need plate
      need-is = omega (arith, widest-half)

      pub need-fits : Fits w64 (half + half)
      need-fits = record { fits = omega (arith, widest-half, (plate-sizes-fit plate given).half_small) }

      pub need-told : TellsNeed plate (half + half)
      need-told = record { prepared_is = λ g. need-is; other_is = λ n. absurd (n given) }

      -- the rooms that were tested
      module _ (counts working : List ℕ) {short : Bool} (rooms : TestsRooms (length counts) (length working) (half + half) short)
          (not_whole : plate.k ≡ 64 → ⊥) where
        pub rooms-refused : short ≡ true → CountsWeights plate counts working counts working (Err MetricRoom)
        rooms-refused e = refused-8 plate counts working given not_whole (by-need need-is (rooms.yes_is e))

        pub made-ready : short ≡ false → Ready plate half counts working
        made-ready e = record {
          plate_given = given;
          half_widest = widest-half;
          not_whole = not_whole;
          counts_there = (rooms.no_is e).0;
          working_there = (rooms.no_is e).1;
        }

-- of a plate by value, whose profile was widened
module _ {plate : Plate} {p : Bool} {profile : List ℕ} (t : Tests plate p) (e : p ≡ true) (w : profile ≡ plate.profile) where
  pub long-by : plate.n < length profile
  long-by = rw w (profile-long t e)

  pub entries_by : ProfileFits profile plate.n
  entries_by = rw w (entries-small t e)

  module _ {half : ℕ} (h : half ≡ 2 ^ widest_entry profile plate.n * 65) where
    pub need-fits-by : Fits w64 (half + half)
    need-fits-by = need-fits t e (rw w at h)

    pub need-told-by : TellsNeed plate (half + half)
    need-told-by = need-told t e (rw w at h)

module _ {plate : Plate} {half : ℕ} {counts working : List ℕ} (ready : Ready plate half counts working) where
  abbrev lent : List ℕ
  lent = take (half + half) working

  pub working-count : half + half ≡ length (take (half + half) working)
  working-count = sym (length-take-le (half + half) working ready.working_there)

  pub tally-asks : TallyFits (rows_of plate) plate.n half (take (half + half) working)
  tally-asks =
      tally-fits plate ready.plate_given (not-64 plate counts working ready.plate_given ready.not_whole) half ready.half_widest lent
      (sym working-count)

  -- what was counted
  module _ {counts' zeros : List ℕ} (k : Counted (rows_of plate) plate.n counts counts')
      (z : zeros ≡ replicate (length (take (half + half) working)) 0) where
    pub counts-still : 65 ≤ length counts'
    counts-still = omega (arith, k.size, ready.counts_there)

    module _ {r : ℕ} (f : FirstAbove counts' r) where
      need-same : half + half ≡ working_need plate
      need-same = omega (arith, ready.half_widest)

      zeroed : zeros ++ drop (half + half) working ≡ replicate (half + half) 0 ++ drop (half + half) working
      zeroed = ap (λ (l : List ℕ). l ++ drop (half + half) working) (z ∙ ap (λ (m : ℕ). replicate m 0) (sym working-count))

      least-found : r < 65 → CountsWeights plate counts working counts' (zeros ++ drop (half + half) working) (Ok (Some r))
      least-found =
          counted-least plate counts working ready.plate_given ready.not_whole ready.counts_there (omega (arith, ready.working_there, need-same))
          counts' k r f (half + half) need-same (zeros ++ drop (half + half) working) zeroed

      none_found : 65 ≤ r → CountsWeights plate counts working counts' (zeros ++ drop (half + half) working) (Ok None)
      none_found =
          counted_none plate counts working ready.plate_given ready.not_whole ready.counts_there (omega (arith, ready.working_there, need-same))
          counts' k r f (half + half) need-same (zeros ++ drop (half + half) working) zeroed

    -- the reply by what was found
    pub least-told : (r : Option ℕ) → LeastAbove counts' r → CountsWeights plate counts working counts' (zeros ++ drop (half + half) working) (Ok r)
    least-told (Some r) f = least-found f.0 f.1
    least-told None f = none_found f (omega arith)
