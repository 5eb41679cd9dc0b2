-- What the plot lister prints for a sheet that is accepted (L1, L2): the lines of the plots in its payload and the number of its blocks changed. With
-- the refusals of specs/Refusals.antt this is the answer to every input of bytes. proofs/Accepted.antt proves it.
use Rattle.std.specs.Prelude.{◌≡◌, List, ℕ, drop}
use Rattle.sheet.specs.declared.Mode.TheVariants.{Burst}
use Rattle.sheet.specs.Sheet.{read_block}
use Rattle.sheet.specs.Theorems.{AllWords, differing}
use Rattle.plot.specs.Layout.{Plot}
use Rattle.plot_promises.specs.Canonical.{Contains}
use Rattle.listing_text.specs.Meaning.{in_lines, answer_lines}
use Rattle.listing.specs.Listing.{input_profile, listed}
use Rattle.listing.specs.Refusals.{SheetInput, messages}

-- all blocks have codewords, and the payload of their message bytes contains these plots: "a header, one line per tally line .., and the word `mended`, a
-- comma and the number of blocks changed", which are those whose codeword isn't the read block
abbrev pub ListAccepted : List ℕ → Type 0
ListAccepted input =
    SheetInput input → (words : ℕ → List ℕ) → AllWords Burst (input_profile input) (drop 5 input) words → (ps : List Plot) → Contains (messages input words) ps
    → listed input ≡ in_lines (answer_lines (differing (input_profile input).depth words (read_block (input_profile input) (drop 5 input))) ps)
