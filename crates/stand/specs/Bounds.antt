-- What the counting loops need of a table, of the rows of species and of the bytes, so that no index leaves the table and no sum overflows: premises of private
-- functions only. That every caller meets them is proved.
use Rattle.std.specs.Prelude.{ℕ, ◌+◌, ◌/◌, ◌≤◌, ◌<◌, ◌≡◌, List, length, get_or}
use Rattle.plot.specs.declared.Line.{Line}
use Rattle.plot.specs.Grammar.{reading, Readable}
use Rattle.plot_promises.specs.Lines.{line_at, InRanges}
use Rattle.stand.specs.Table.{cell_of, plus_plots, plots_in, most}

-- no cell is above m
abbrev pub AtMost : ℕ → List (List ℕ) → Type 0
AtMost m t = (i j : ℕ) → cell_of t i j ≤ m

-- every row is one of the seventeen: what every value of the type Rows keeps
abbrev pub RowsFit : List ℕ → Type 0
RowsFit rows = (x : ℕ) → get_or rows x 0 < 17

-- a line can be counted
pub record LineFits (line : Line) (t : List (List ℕ)) : Type 0 where
  pub ranges : InRanges line
  pub cells : AtMost (most + most) t

-- the lines of a record
pub record LinesFit (lines : List ℕ) (t : List (List ℕ)) : Type 0 where
  pub few : length lines ≤ 120
  pub ranges : (i : ℕ) → i < length lines / 3 → InRanges (line_at lines i)
  pub cells : AtMost (most + 1000000) t

-- the records of a payload
pub record RecordsFit (payload : List ℕ) (t : List (List ℕ)) : Type 0 where
  pub short : length payload ≤ 4048
  pub cells : AtMost most t

-- what counting leaves where the payload is accepted: every record is counted
pub record AllCounted (rows payload : List ℕ) (t : List (List ℕ)) (records : ℕ) (u : List (List ℕ)) : Type 0 where
  pub reads : Readable (reading payload)
  pub count : records ≡ length (plots_in (reading payload))
  pub table : u ≡ plus_plots rows (plots_in (reading payload)) t
