use Rattle.std.proofs.Common.{◌≤◌, ◌+◌, ◌∙◌, ℕ, List, [], ◌∷◌, ap, subst, length, nat_eq, arith}
use Rattle.std.proofs.lemmas.List.{length-append}
use Rattle.indexmap.specs.IndexMap.{get}
use Rattle.jn_table.specs.declared.class.ClassId.{ClassId}
use Rattle.jn_names.specs.ByName.{Adds}
use Rattle.jn_names.specs.Listed.{method_keys, field_keys}
use Rattle.jn_names.proofs.Keeping.{listed_more}
use Rattle.jn_names.proofs.MemberSays.{rows_more, rows_all}
use Rattle.jn_names.proofs.members.Members.build.Goals as goal

pub loop-k-preserved : goal.loop-k-preserved
loop-k-preserved c =
    let id : ClassId = record { 0 = c.loop-k.k } in
    let row = c.in_ok-row.row in
    record {
      long =
          ap length c.in_ok-push.ensures.items
          ∙ (length-append c.loop-k.rows.items (row ∷ []) ∙ ap (λ n. n + 1) c.loop-k.invariant.long);
      rows = λ p i. rows_more p c.args.t.now.known.items c.loop-k.rows.items c.push.new.self.items row id c.loop-k.invariant.long
          (c.loop-k.invariant.rows p i) (λ R n. c.in_ok-row.ensures p R i n) c.in_ok-push.ensures.items;
      methods =
          listed_more method_keys c.loop-k.rows.items c.push.new.self.items row (get nat_eq c.loop-k.by_method)
          (get nat_eq c.keep_at_each.new.lists) id
          c.loop-k.invariant.long c.loop-k.invariant.methods
          (subst (λ (ns : List ℕ). Adds ns id (get nat_eq c.loop-k.by_method) (get nat_eq c.keep_at_each.new.lists))
          c.as_slice.ensures.keys c.in_ok-keep_at_each.ensures)
          c.in_ok-push.ensures.items;
      fields =
          listed_more field_keys c.loop-k.rows.items c.push.new.self.items row (get nat_eq c.loop-k.by_field)
          (get nat_eq c.keep_at_each-in-loop-k.new.lists) id
          c.loop-k.invariant.long c.loop-k.invariant.fields
          (subst (λ (ns : List ℕ). Adds ns id (get nat_eq c.loop-k.by_field)
          (get nat_eq c.keep_at_each-in-loop-k.new.lists)) c.as_slice-in-loop-k.ensures.keys
          c.in_ok-keep_at_each-2.ensures)
          c.in_ok-push.ensures.items;
    }

pub returns : goal.returns
returns c = λ f a.
    let past : length c.args.t.now.known.items ≤ c.loop-k.k = omega
    (arith, c.loop-k-test.false, ap length c.known-k-end.ensures) in
    rows_all c.args.p.now c.args.t.now _ c.loop-k.k f a past (c.loop-k.invariant.rows c.args.p.now f.table)
