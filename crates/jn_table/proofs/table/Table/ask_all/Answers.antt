use Rattle.std.proofs.Common.{inr}
use Rattle.std.proofs.lemmas.Result.{err_from_is_err_and}
use Rattle.jn_table.proofs.Fillings.{filled_rows, refused_table}
use Rattle.jn_table.proofs.table.Table.ask_all.Goals as goal

pub returns-in_err-all-clause-err : goal.returns-in_err-all-clause-err
returns-in_err-all-clause-err c =
    let p = err_from_is_err_and c.from_residual.result c.from_residual.ensures.1 in
    rw (p.1, p.2) (refused_table c.args.self.now _
    (rw (c.deref.ensures.value, c.deref-2.ensures.value) at c.in_err-all.ensures.err))

pub returns-clause-stays : goal.returns-clause-stays
returns-clause-stays c p is =
    let f = filled_rows c.args.self.now _ _
    (rw (c.as_slice.ensures, c.deref.ensures.value, c.deref-2.ensures.value) at c.in_ok-all.ensures.ok) p is in
    record {
      named = is.named;
      texts = is.texts;
      entries = is.entries;
      order = is.order;
      rows = f.rows_are;
      asked =
          inr (f.whole, f.passes);
    }

pub returns-clause-ok : goal.returns-clause-ok
returns-clause-ok c p is =
    let f = filled_rows c.args.self.now _ _
    (rw (c.as_slice.ensures, c.deref.ensures.value, c.deref-2.ensures.value) at c.in_ok-all.ensures.ok) p is in
    record {
      filled = record {
        table = record {
          named = is.named;
          texts = is.texts;
          entries = is.entries;
          order = is.order;
          rows =
              f.rows_are;
          asked = inr (f.whole, f.passes);
        };
        whole = f.whole;
      };
      passes = f.passes;
    }
