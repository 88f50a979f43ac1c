use Rattle.std.proofs.Common.{subst, sym, List, ℕ, length, refl}
use Rattle.jn_share.specs.Prepared.{FamiliesTo}
use Rattle.jn_layout.specs.declared.declared.FieldAt.{FieldAt}
use Rattle.jn_layout.specs.Finding.{FieldsPlaced}
use Rattle.jn_layout.proofs.RowLaws.{methods_asked, fields_asked}
use Rattle.jn_layout.proofs.rows.pairs_of.Goals as goal

pub returns : goal.returns
returns c = λ g names p n asked R made i.
    let t = c.args.t.now in
    let all = c.args.made.now in
    let is = c.row-row.ensures p R asked.parts.filled.table i in
    record {
      members = c.in_ok-members.ensures p t n R asked.parts.filled asked.naming.classes is;
      methods = c.in_ok-methods.ensures p t n R names.methods all.declared.bodies.items
          (methods_asked p t c.args.m.now g c.args.s.now names n asked all made names.methods refl all.declared.bodies.items refl) made.methods i is;
      fields = c.in_ok-slots.ensures.is p t n R names.fields
          (fields_asked p t c.args.m.now g c.args.s.now names n asked all made names.fields refl c.deref.result.now c.deref.ensures.value)
          (subst (λ (xs : List FieldAt). FieldsPlaced xs names.fields all.finder) (sym c.deref.ensures.value) made.fields) i is;
      others = c.in_ok-others.ensures p g n asked.parts.filled asked.parts.groups made.kin asked.naming.classes
          (subst (λ (xs : List ℕ). FamiliesTo t.known.items (length t.known.items) xs) (sym c.deref-2.ensures.value) (made.families p asked.parts.filled)) R i;
      small = c.in_ok-slots.ensures.small;
    }
