-- The canonical text of a program is a source of it, and shows as itself.
use Rattle.std.proofs.Common.{ℕ, ◌≤◌, List, length, refl, subst}
use Rattle.jn_base.specs.declared.tree.Program.{Program}
use Rattle.jn_base.specs.Spelling.{IsTextOf, greatest_source}
use Rattle.jn_printer.specs.DeclText.{program_text}
use Rattle.jn_printer.specs.WayBack.{SpellsWithin}
use Rattle.jn_printer.proofs.TheWayBack.{way_back}
use Rattle.jn_printer.proofs.TextUnseen.{same_text}
use Rattle.jn_drive.specs.declared.words.SourceJob.TheVariants as sources
use Rattle.jn_drive.specs.Reply.{SourceReply, TreeReply, output_reply}
use Rattle.jn_drive.specs.Again.{IsShownAgain}
use Rattle.jn_round_trip.proofs.Bridge.{within_is_text}

pub shown_again : (p : Program) (bytes : List ℕ) → IsTextOf p bytes → length (program_text p) ≤ greatest_source → IsShownAgain p
shown_again p bytes is short =
    let back : SpellsWithin p (program_text p) = way_back p (record { source = bytes; spelled = p; same = refl; is_text = is }) in
    let text = within_is_text p (program_text p) back short in record {
      spelled = back.spelled;
      same = back.same;
      is_text = text;
      reply = SourceReply.to_tree back.spelled text
          (subst (λ (t : List ℕ). TreeReply back.spelled sources.Show (output_reply t)) (same_text back.spelled p back.same) TreeReply.shown);
    }
