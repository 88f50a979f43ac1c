use Rattle.jn_base.specs.declared.tree.Node.TheVariants.{outs-Chain, outs-Var}
use Rattle.jn_printer.proofs.Bare.{placed_text, link_placed, bare_chain, bare_variable}
use Rattle.jn_printer.proofs.examples.chains.Goals as goal

pub returns : goal.returns
returns c = record {
  looser_left = simp (placed_text, link_placed, outs-Chain, bare_chain, outs-Var, bare_variable);
  tighter_right = simp (placed_text, link_placed, outs-Chain, bare_chain, outs-Var, bare_variable);
  same_left = simp (placed_text, link_placed, outs-Chain, bare_chain, outs-Var, bare_variable);
  same_right = simp (placed_text, link_placed, outs-Chain, bare_chain, outs-Var, bare_variable);
  one_chain = simp (placed_text, link_placed, outs-Chain, bare_chain, outs-Var, bare_variable);
  same_equal = simp (placed_text, link_placed, outs-Chain, bare_chain, outs-Var, bare_variable);
  sides = simp (placed_text, link_placed, outs-Chain, bare_chain, outs-Var, bare_variable);
  looser_right = simp (placed_text, link_placed, outs-Chain, bare_chain, outs-Var, bare_variable);
  tighter_left = simp (placed_text, link_placed, outs-Chain, bare_chain, outs-Var, bare_variable);
}
