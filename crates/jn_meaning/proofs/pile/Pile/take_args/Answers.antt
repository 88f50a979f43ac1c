use Rattle.std.proofs.Common.{◌≡◌, ◌∙◌, sym, ap, ℕ, List, ◌++◌, reverse, length, take, drop, arith, ◌-◌}
use Rattle.std.proofs.lemmas.List.{reverse-append, length-drop}
use Rattle.jn_meaning.specs.declared.value.Value.{Value}
use Rattle.jn_meaning.proofs.Lists.{take_drop}
use Rattle.jn_meaning.proofs.pile.Pile.take_args.Goals as goal

pub returns : goal.returns
returns c =
    let xs : List Value = c.self.inside.items.items in
    let n : ℕ = c.len-2.result - c.args.n in
    let tail : c.in_ok-args.args.items ≡ drop n xs = c.in_ok-args.ensures.tail in
    let l : length c.in_ok-args.args.items ≡ c.args.n = omega (arith, ap length tail, length-drop n xs) in (
      l,
      sym c.self.view_is ∙ ap reverse (sym (take_drop n xs)) ∙ reverse-append (take n xs) (drop n xs)
          ∙ ap (λ (ys : List Value). reverse ys ++ reverse (take n xs)) (sym tail)
          ∙ ap (λ (ys : List Value). reverse c.in_ok-args.args.items ++ reverse ys) (sym c.in_ok-args.ensures.items),
    )
