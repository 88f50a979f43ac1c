use Rattle.jn_base.specs.declared.tree.Node.TheVariants.{outs-Chain, outs-Var, outs-Post}
use Rattle.jn_printer.proofs.Bare.{placed_text, link_placed, field_text, bare_chain, bare_variable, bare_post}
use Rattle.jn_printer.proofs.StmtTexts.{set_text, if_text, block_text}
use Rattle.jn_printer.proofs.examples.statements.Goals as goal

pub returns : goal.returns
returns c = record {
  set = simp (set_text, placed_text, outs-Var, bare_variable);
  set_of_part = simp (set_text, placed_text, field_text, outs-Var, bare_variable, outs-Post, bare_post);
  set_of_parts = simp (set_text, placed_text, field_text, outs-Var, bare_variable, outs-Post, bare_post);
  set_of_sum = simp (set_text, placed_text, link_placed, outs-Var, bare_variable, outs-Chain, bare_chain);
  empty_else = simp (if_text, placed_text, outs-Var, bare_variable);
  other_block = simp (if_text, block_text, placed_text, outs-Var, bare_variable);
}
