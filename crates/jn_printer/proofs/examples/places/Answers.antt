use Rattle.std.proofs.Common.{◌≡◌, ℕ, List, [], ◌∷◌, true, false, ◌==◌, get_or, true≢false, ap, sym, refl, ◌∙◌}
use Rattle.std.specs.Prelude.{codes}
use Rattle.jn_base.specs.declared.tree.Link.{Link}
use Rattle.jn_base.specs.declared.tree.Level.TheVariants as level
use Rattle.jn_base.specs.declared.tree.Op.TheVariants as op
use Rattle.jn_base.specs.declared.tree.Node.TheVariants as node
use Rattle.jn_base.specs.declared.tree.Node.TheVariants.{outs-Var}
use Rattle.jn_base.specs.Parts.{expr, link}
use Rattle.jn_printer.specs.declared.symbol.Symbol.TheVariants as symbol
use Rattle.jn_printer.specs.ExprText.{Writer, expr_text}
use Rattle.jn_printer.specs.Examples.{here, there, called, names, a, b, shown}
use Rattle.jn_printer.proofs.Bare.{placed_text, bare_variable}
use Rattle.jn_printer.proofs.Placeless.{expr_same, link_same, chain_same}
use Rattle.jn_printer.proofs.PlacesUnseen.{expr_unseen}
use Rattle.jn_printer.proofs.examples.places.Goals as goal

pub returns : goal.returns
returns c = record {
  same = expr_same here there _ _ (chain_same level.Sum (expr here (node.Var (called 0))) (expr there (node.Var (called 0)))
      (link op.Add there (expr there (node.Var (called 1))) ∷ []) (link op.Add here (expr here (node.Var (called 1))) ∷ [])
      (expr_same here there _ _ refl) (ap (λ (l : Link). l ∷ []) (link_same op.Add there here _ _ (expr_same there here _ _ refl))));
  differs = λ h.
      let text_a : shown a ≡ codes "a" = simp (placed_text, outs-Var, bare_variable) in
      let text_b : shown b ≡ codes "b" = simp (placed_text, outs-Var, bare_variable) in
      let one : expr_text names a ≡ expr_text names b = sym (expr_unseen names a) ∙ ap (expr_text names) h ∙ expr_unseen names b in
      let both : codes "a" ≡ codes "b" = sym text_a ∙ ap (λ (w : Writer). w symbol.Expression) one ∙ text_b in
      let tested : true ≡ false = ap (λ (xs : List ℕ). get_or xs 0 0 == 97) both in
      true≢false tested;
}
