use Rattle.std.proofs.Common.{sym, ◌∙◌}
use Rattle.jn_link.proofs.whole.all_codes.Goals as goal

pub returns : goal.returns
returns c = record {
  bodies = c.in_ok-codes.codes;
  last = c.in_ok-last.last;
  are = c.in_ok-push.ensures.ok;
  start = c.in_ok-start.ensures;
  lowered = c.in_ok-codes.ensures;
  is_start = λ n classes methods.
      c.in_ok-last.ensures.start n classes (methods ∙ sym c.as_slice-names.ensures);
  start_in_form = c.in_ok-last.ensures.in_form;
}
