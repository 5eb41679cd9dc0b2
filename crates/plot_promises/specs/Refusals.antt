-- What the entries on a payload answer, exactly when (R1 to R5, E3, E4), over plots, bytes and document 01's numbers: what stands at a place, the check of a
-- payload, asking for a plot, and adding one. These fix number, place and every value of an answer, and Figures.antt the figure and the line. proofs/Stepping.antt, Checking.antt, Asking.antt and
-- Adding.antt prove them.
use Rattle.std.specs.Prelude.{◌≡◌, ◌↔◌, ◌⊎◌, ◌≢◌, Some, None, Ok, Err, List, [], ◌∷◌, ◌++◌, ℕ, ◌+◌, ◌<◌, ◌≤◌, length, get_or}
use Rattle.plot.specs.declared.Cursor.{Cursor}
use Rattle.plot.specs.declared.Refusal.{Refusal}
use Rattle.plot.specs.Layout.{Plot, plot_of, count_of, record_length, record_of, bytes_of}
use Rattle.plot.specs.Grammar.{Step, step_at, record_at}
use Rattle.plot_promises.specs.Checks.{Check, FirstFails, NoneFails, header_checks, record_checks, Zeros, FaultAt, RecordFault, add_checks}
use Rattle.plot.specs.Answers.{last_number, checked, located, asked, added, payload_with}
use Rattle.plot.specs.Numbers.{number_of, place_of, payload_number, payload_place, payload_end, located_number, located_place, located_start, located_length, added_number, added_place, added_start}
use Rattle.plot_promises.specs.Canonical.{Rising, Contains, FoundAt}

-- the byte after the last record, 0 if there is none
abbrev pub end_of : List Plot → ℕ
end_of plots = length (bytes_of plots)

-- an answer to what stands at the place `at`, the payload from there on being s, where a record there has to pass these checks: "A place in the payload moves on one record
-- at a time."
pub record StandsExactly (answer : Step) (checks : List Check) (at : ℕ) (s : List ℕ) : Type 0 where
  pub ends : (answer ≡ Ok None) ↔ Zeros s
  -- a record that passes them: where its lines begin, how many they are, and the cursor after it
  pub goes_on : (lines count : ℕ) (next : Cursor) → (answer ≡ Ok (Some (record { lines = lines; count = count; next = next })))
      ↔ ((get_or s 0 0 ≢ 0) × NoneFails checks × (lines ≡ at + 5) × (count ≡ count_of s) × (next.at ≡ at + record_length (count_of s)) × (next.last ≡ plot_of s))
  pub refused : (number place : ℕ)
      → ((r : Refusal) × (answer ≡ Err r) × (number_of r ≡ number) × (place_of r ≡ place)) ↔ (FaultAt checks s number × (place ≡ at))

-- with the checks before the lines
abbrev pub SteppingExactly : ℕ → List ℕ → Type 0
SteppingExactly at s = StandsExactly (step_at at s) (header_checks s) at s

-- with every check of the record, after a plot of the number `last`
abbrev pub MovingExactly : ℕ → ℕ → List ℕ → Type 0
MovingExactly at last s = StandsExactly (record_at at last s) (record_checks last s) at s

-- the records of plots that hold and rise, then, at `place`, bytes of which `Here` is true; it is told the last plot's number, 0 if there is none, and these bytes
pub record AfterPlots (Here : ℕ → List ℕ → Type 0) (s : List ℕ) (place : ℕ) : Type 0 where
  pub short : length s ≤ 4048
  pub plots : List Plot
  pub rest : List ℕ
  pub rising : Rising 0 plots
  pub form : s ≡ bytes_of plots ++ rest
  pub begins : place ≡ end_of plots
  pub here : Here (last_number 0 plots) rest

-- bytes at which the check of this number is the first that fails
abbrev pub StopsAt : List ℕ → ℕ → ℕ → Type 0
StopsAt s number place = AfterPlots (λ (last : ℕ) (rest : List ℕ). RecordFault last rest number) s place

-- a payload that is refused: 2 at place 0 if it "exceeds 4,048 bytes", before all others; else by "the first failing check of the first failing record"
abbrev pub RefusedAs : List ℕ → ℕ → ℕ → Type 0
RefusedAs s number place = ((4048 < length s) × (number ≡ 2) × (place ≡ 0)) ⊎ StopsAt s number place

-- the check of a payload: accepted, with the byte after the last record, or refused
pub record CheckingExactly (s : List ℕ) : Type 0 where
  pub accepted : (end : ℕ) → ((payload_number (checked s) ≡ 0) × (payload_end (checked s) ≡ end)) ↔ ((plots : List Plot) × Contains s plots × (end ≡ end_of plots))
  pub refused : (number place : ℕ) → number ≢ 0 → ((payload_number (checked s) ≡ number) × (payload_place (checked s) ≡ place)) ↔ RefusedAs s number place
  -- the cursor after the last record, with the last plot's number, 0 if there is none
  pub cursor : (plots : List Plot) → Contains s plots → checked s ≡ Ok (record { at = end_of plots; last = last_number 0 plots })
  -- E5: a value that an answer does not have is 0
  pub unset : (payload_number (checked s) ≡ 0 → payload_place (checked s) ≡ 0) × (payload_number (checked s) ≢ 0 → payload_end (checked s) ≡ 0)

-- the record of plot n begins at `start` in the payload s and is `bytes`
pub record RecordAt (n : ℕ) (s : List ℕ) (start : ℕ) (bytes : List ℕ) : Type 0 where
  pub before : List Plot
  pub plot : Plot
  pub after : List Plot
  pub contains : Contains s (before ++ plot ∷ after)
  pub number : plot.number ≡ n
  pub begins : start ≡ end_of before
  pub is : bytes ≡ record_of plot

-- no plot of s has the number n: "payload accepted, plot absent (number 0 included)"
pub record Absent (n : ℕ) (s : List ℕ) : Type 0 where
  pub plots : List Plot
  pub contains : Contains s plots
  pub none : (before : List Plot) (p : Plot) (after : List Plot) → plots ≡ before ++ p ∷ after → p.number ≢ n

-- asking for plot n, and its companion
pub record AskingExactly (n : ℕ) (s : List ℕ) : Type 0 where
  -- "the record, mark to last line, as a part of the caller's payload"
  pub found : (start : ℕ) (bytes : List ℕ) → FoundAt n s start bytes ↔ RecordAt n s start bytes
  -- 9, "no such plot", at place 0
  pub absent : ((located_number (located n s) ≡ 9) × (located_place (located n s) ≡ 0)) ↔ Absent n s
  pub zero : payload_number (checked s) ≡ 0 → n ≡ 0 → located_number (located n s) ≡ 9
  -- else as the payload itself is refused
  pub refused : (number place : ℕ) → number ≢ 0 → number ≢ 9
      → ((located_number (located n s) ≡ number) × (located_place (located n s) ≡ place)) ↔ ((payload_number (checked s) ≡ number) × (payload_place (checked s) ≡ place))
  -- "After a refusal that part is empty"
  pub empty : located_number (located n s) ≢ 0 → (asked n s ≡ []) × (located_start (located n s) ≡ 0) × (located_length (located n s) ≡ 0)
  pub unset : located_number (located n s) ≡ 0 → located_place (located n s) ≡ 0

-- adding the plot p to a payload that contains these plots: "the result is the record's first byte", and "the would-be first byte" is the place of a refusal
pub record AddingTo (p : Plot) (s : List ℕ) (plots : List Plot) : Type 0 where
  pub refused : (number place : ℕ) → number ≢ 0
      → ((added_number (added p s) ≡ number) × (added_place (added p s) ≡ place)) ↔ (FirstFails (add_checks (length s) (end_of plots) (last_number 0 plots) p) number × (place ≡ end_of plots))
  pub accepted : (start : ℕ) → ((added_number (added p s) ≡ 0) × (added_start (added p s) ≡ start)) ↔ (NoneFails (add_checks (length s) (end_of plots) (last_number 0 plots) p) × (start ≡ end_of plots))
  -- "It writes the record right after the last record (at byte 0 if there is none) .."
  pub written : added_number (added p s) ≡ 0 → Contains (payload_with p s) (plots ++ p ∷ [])
  -- ".. and changes no other byte"
  pub others : (i : ℕ) → (i < end_of plots) ⊎ (end_of plots + length (record_of p) ≤ i) → get_or (payload_with p s) i 0 ≡ get_or s i 0
  pub size : length (payload_with p s) ≡ length s

-- adding a plot
pub record AddingExactly (p : Plot) (s : List ℕ) : Type 0 where
  -- "Adding a plot checks the payload": its own refusal
  pub payload : payload_number (checked s) ≢ 0 → (added_number (added p s) ≡ payload_number (checked s)) × (added_place (added p s) ≡ payload_place (checked s))
  -- then the plot
  pub plot : (plots : List Plot) → Contains s plots → AddingTo p s plots
  -- E4: "Every lent buffer is unchanged"
  pub unchanged : added_number (added p s) ≢ 0 → payload_with p s ≡ s
  pub unset : (added_number (added p s) ≡ 0 → added_place (added p s) ≡ 0) × (added_number (added p s) ≢ 0 → added_start (added p s) ≡ 0)
