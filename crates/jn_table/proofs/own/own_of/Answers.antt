use Rattle.jn_base.specs.declared.tree.Kind.TheVariants as kind
use Rattle.jn_table.specs.declared.gather.Part.TheVariants as part
use Rattle.jn_table.proofs.Grouped.{at_within, own_kinds_are, own_names_are}
use Rattle.jn_table.proofs.own.own_of.Goals as goal

pub returns : goal.returns
returns c =
    let es = c.args.entries.now in
    let paths = c.args.paths.now in
    let rows = c.in_ok-declared.declared.items in
    let are = c.in_ok-declared.ensures in
    record {
      declared = are;
      classes = own_kinds_are es paths rows are kind.Class _ (rw c.deref.ensures.value at c.in_ok-classes.ensures);
      packages = own_kinds_are es paths rows are kind.Package _ (rw c.deref-2.ensures.value at c.in_ok-packages.ensures);
      methods = own_names_are es paths rows are part.Methods _ (rw c.deref-3.ensures.value at c.in_ok-methods.ensures);
      fields = own_names_are es paths rows are part.Fields _ (rw c.deref-4.ensures.value at c.in_ok-fields.ensures);
    }

pub own_kinds-requires : goal.own_kinds-requires
own_kinds-requires c =
    rw c.deref.ensures.value
    (at_within c.args.entries.now c.args.paths.now c.in_ok-declared.declared.items c.in_ok-declared.ensures)

pub own_kinds-requires-2 : goal.own_kinds-requires-2
own_kinds-requires-2 c =
    rw c.deref-2.ensures.value
    (at_within c.args.entries.now c.args.paths.now c.in_ok-declared.declared.items c.in_ok-declared.ensures)

pub own_names-requires : goal.own_names-requires
own_names-requires c =
    rw c.deref-3.ensures.value
    (at_within c.args.entries.now c.args.paths.now c.in_ok-declared.declared.items c.in_ok-declared.ensures)

pub own_names-requires-2 : goal.own_names-requires-2
own_names-requires-2 c =
    rw c.deref-4.ensures.value
    (at_within c.args.entries.now c.args.paths.now c.in_ok-declared.declared.items c.in_ok-declared.ensures)
