use Rattle.std.proofs.Common.{List, ℕ, length, subst}
use Rattle.std.proofs.lemmas.Option.{slice_get_within}
use Rattle.jn_base.specs.Paths.{shown}
use Rattle.jn_reach.specs.Pairs.{AreMembers}
use Rattle.jn_table.specs.declared.field_types.FieldTy.{FieldTy}
use Rattle.jn_share.specs.Prepared.{DeclsTo}
use Rattle.jn_share.proofs.Preparing.{family_edge}
use Rattle.jn_share.proofs.prepared.prepare.Goals as goal

pub returns : goal.returns
returns c = λ p f types.
    let known = c.args.t.now.known.items in
    let fs = c.in_ok-families.families.items in
    record {
      families = λ k V X a g. c.in_ok-families.ensures.is p f k V X (slice_get_within known k (shown V) a) a g;
      classes = λ k n at. family_edge fs c.in_ok-classes.classes.items
          (subst (λ (xs : List ℕ). AreMembers xs c.in_ok-classes.classes.items) c.deref.ensures.value c.in_ok-classes.ensures.exact) c.in_ok-families.ensures.low k n at;
      decls = λ k V row a is.
          let d = subst (λ (ts : List FieldTy). DeclsTo c.args.t.now ts (length known) c.in_ok-decls.decls.items) c.deref-2.ensures.value c.in_ok-decls.ensures k (slice_get_within known k (shown V) a) in
          (d.0, d.1, d.2 p V row f types a is);
    }
