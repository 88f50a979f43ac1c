use Rattle.std.proofs.Common.{◌∙◌, List, ap, sym, rules, reverse}
use Rattle.jn_base.specs.declared.tree.Name.{Name}
use Rattle.jn_base.specs.Duplicates.{in_decl}
use Rattle.jn_header.specs.First.{first}
use Rattle.jn_header.proofs.TwiceSteps.{decls_inside, decls_next}
use Rattle.jn_header.proofs.twice.first_duplicate.Goals as goal

pub loop-d-preserved : goal.loop-d-preserved
loop-d-preserved c = decls_next c.args.p.now.decls c.loop-d.d-index c.d-item.result _ _ c.loop-d.invariant (search rules) (search rules) (search rules) (sym c.in-None.is ∙ (c.in_ok-found.ensures ∙ ap (λ (ns : List Name). first ((in_decl c.d-item.result).inside (reverse ns))) c.new.ensures)) c.in_ok-add_number.ensures

pub returns-in-Some : goal.returns-in-Some
returns-in-Some c = decls_inside c.args.p.now.decls c.loop-d.d-index c.d-item.result c.loop-d.seen.keys c.in-Some.found c.loop-d.invariant (search rules) (search rules) (search rules) (sym c.in-Some.is ∙ (c.in_ok-found.ensures ∙ ap (λ (ns : List Name). first ((in_decl c.d-item.result).inside (reverse ns))) c.new.ensures))
