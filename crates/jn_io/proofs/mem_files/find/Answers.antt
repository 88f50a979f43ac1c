use Rattle.std.proofs.Common.{◌≡◌, ℕ, ◌+◌, ◌<◌, true, false, take, None, MatchOption, string_bytes, nat_eq, ap, sym, ◌∙◌, subst, arith}
use Rattle.std.specs.declared.option.Option.{Option}
use Rattle.std.specs.FinMap.{get, get-empty}
use lib.Pointwise.{pointwise}
use Rattle.jn_io.specs.Told.{name_cmp}
use Rattle.jn_io.specs.MemFiles.{files_of, bytes_at}
use Rattle.jn_io.proofs.Saves.{found_here, not_found_here, still_found}
use Rattle.jn_io.proofs.mem_files.find.Goals as goal
use Rattle.jn_io.proofs.mem_files.find.Goals.{then-eq, else-eq}

pub loop-k-init : goal.loop-k-init
loop-k-init c = get-empty name_cmp c.args.name.now

pub loop-k-preserved : goal.loop-k-preserved
loop-k-preserved c =
    let saves = c.args.saves.now in
    let name = c.args.name.now in
    let file = c.index-saves-k.result in
    let i = c.loop-k.k in
    let text = c.as_str.ensures.value in
    let P : Option ℕ → Type 0 = λ found. MatchOption found (get (files_of (take (i + 1) saves)) name ≡ None) (λ k. (k < i + 1) × (get (files_of (take (i + 1) saves)) name ≡ bytes_at saves k)) in
    elim c.if-eq.branch [
      | then-eq w ↦
          let same : true ≡ pointwise nat_eq (string_bytes file.name) name = sym w.if-eq.true ∙ c.eq.ensures ∙ ap (λ t. pointwise nat_eq t name) text in
          subst P (sym w.found-is) (omega arith, found_here saves i file name c.loop-k-test.true c.index-saves-k.is same)
      | else-eq w ↦
          let other : false ≡ pointwise nat_eq (string_bytes file.name) name = sym w.if-eq.false ∙ c.eq.ensures ∙ ap (λ t. pointwise nat_eq t name) text in
          subst P (sym w.found-is) (still_found c.loop-k.found i _ _ (bytes_at saves) (not_found_here saves i file name c.loop-k-test.true c.index-saves-k.is other) c.loop-k.invariant)
    ]
