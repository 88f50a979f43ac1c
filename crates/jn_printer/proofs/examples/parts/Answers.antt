use Rattle.std.specs.Fmt.{digits}
use Rattle.jn_base.specs.declared.tree.Node.TheVariants.{outs-Chain, outs-Var, outs-Int, outs-Neg, outs-Not, outs-View, outs-Post, outs-New, outs-Super}
use Rattle.jn_printer.specs.Pieces.{term_text, view_text}
use Rattle.jn_printer.proofs.Bare.{placed_text, link_placed, field_text, call_text, bare_chain, bare_variable, bare_number, bare_negative, bare_inverse, bare_view, bare_post, bare_new, bare_super}
use Rattle.jn_printer.proofs.examples.parts.Goals as goal

pub returns : goal.returns
unfolding digits term_text view_text
returns c = record {
  signs = simp (placed_text, outs-Neg, bare_negative, outs-Int, bare_number);
  inverse = simp (placed_text, link_placed, outs-Not, bare_inverse, outs-Chain, bare_chain, outs-Var, bare_variable);
  sign_in_product = simp (placed_text, link_placed, outs-Chain, bare_chain, outs-Var, bare_variable, outs-Neg, bare_negative);
  sign_of_part = simp (placed_text, field_text, outs-Var, bare_variable, outs-Neg, bare_negative, outs-Post, bare_post);
  part_of_sign = simp (placed_text, field_text, outs-Var, bare_variable, outs-Neg, bare_negative, outs-Post, bare_post);
  view_of_part = simp (placed_text, field_text, outs-Var, bare_variable, outs-View, bare_view, outs-Post, bare_post);
  part_of_view = simp (placed_text, field_text, outs-Var, bare_variable, outs-View, bare_view, outs-Post, bare_post);
  part_of_part = simp (placed_text, field_text, call_text, outs-Var, bare_variable, outs-Post, bare_post);
  parts = simp (placed_text, link_placed, field_text, call_text, outs-Var, bare_variable, outs-Chain, bare_chain, outs-Post, bare_post);
  part_of_new = simp (placed_text, field_text, outs-Var, bare_variable, outs-Post, bare_post, outs-New, bare_new);
  super_call = simp (placed_text, outs-Var, bare_variable, outs-Super, bare_super);
}
