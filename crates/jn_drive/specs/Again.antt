-- What `show` does with what it put.
use Rattle.std.specs.Prelude.{ℕ, ◌≤◌, List, length}
use Rattle.jn_base.specs.declared.tree.Program.{Program}
use Rattle.jn_base.specs.Spelling.{IsTextOf, greatest_source}
use Rattle.jn_printer.specs.DeclText.{program_text}
use Rattle.jn_base.specs.Unplaced.{IsSameButForPlaces}
use Rattle.jn_drive.specs.declared.words.SourceJob.TheVariants as sources
use Rattle.jn_drive.specs.Reply.{SourceReply, output_reply}

-- The canonical text of p spells a program that is p but for places, nothing of it is refused, and `show` replies the same
-- text to it.
pub record IsShownAgain (p : Program) : Type 0 where
  pub spelled : Program
  pub same : IsSameButForPlaces spelled p
  pub is_text : IsTextOf spelled (program_text p)
  pub reply : SourceReply sources.Show (program_text p) (output_reply (program_text p))

-- This is so of each program that a source spells of which nothing is refused, where its text is no longer than a source.
abbrev pub ShownAgain : Type 0
ShownAgain = (p : Program) (bytes : List ℕ) → IsTextOf p bytes → length (program_text p) ≤ greatest_source → IsShownAgain p
