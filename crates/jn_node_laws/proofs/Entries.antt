-- How a body begins, how a run does, and what the rows say of texts and constructors.
use Rattle.std.proofs.Common.{◌≡◌, ℕ, suc, ◌+◌, ◌*◌, List, [], ◌∷◌, ◌++◌, length, replicate, Option, Some, None, true, false, refl, sym, ap, ◌∙◌, subst, arith}
use Rattle.std.specs.Prelude.{ℤ, pos, slice_get}
use Rattle.std.specs.List.{filter}
use Rattle.std.specs.Option.{option_map}
use Rattle.std.proofs.lemmas.List.{length-append, length-replicate}
use Rattle.std.proofs.lemmas.Option.{slice_get-map}
use Rattle.jn_base.specs.declared.tree.Param.{Param}
use Rattle.jn_base.specs.declared.tree.TypeTerm.{TypeTerm}
use Rattle.jn_base.specs.declared.tree.Text.{Text}
use Rattle.jn_base.specs.declared.tree.Program.{Program}
use Rattle.jn_base.specs.declared.names.Var.{Var}
use Rattle.jn_code.specs.declared.image.Text as image
use Rattle.jn_code.specs.declared.image.Image.{Image}
use Rattle.jn_code.specs.declared.image.Code.{Code}
use Rattle.jn_code.specs.Machine as machine
use Rattle.jn_sem.specs.Values.{Value}
use Rattle.jn_base.specs.Atoms.{Among}
use Rattle.jn_steps.specs.Steps.{Faults}
use Rattle.jn_sem.specs.State.{Heap, Frame, Variable, frame_views, declared_vars, has_null_path}
use Rattle.jn_sem.specs.Does.{Body, IsBody, AreParams, Entry}
use Rattle.jn_sem.specs.Run.{AreIn, frame_of}
use Rattle.jn_agree.specs.Naming.{Naming, IsWord, WordsAre}
use Rattle.jn_agree.specs.Rows.{RowsAre, HasShape, ResultKind}
use Rattle.jn_agree.specs.Follows.{Knows, Comes, EntryIs, MayEnter, Entered, Begins, LocalAt, paid, is_tested}
use Rattle.jn_agree.specs.Places.{Run, tests}
use Rattle.jn_match_laws.proofs.RowLaws.{got_same}
use Rattle.jn_node_laws.specs.Cont.{Placed, active}
use Rattle.jn_node_laws.specs.Facts.{HasText, SameText}
use Rattle.jn_node_laws.specs.LawsOfEntries.{entry_site, StatementsGo, EntriesFollow}
use Rattle.jn_node_laws.proofs.Nodes.{retrimmed}
use Rattle.jn_node_laws.proofs.Quiet.{spare, comes_within}
use Rattle.jn_node_laws.proofs.Starts.{started, has_selector}
use Rattle.jn_node_laws.proofs.Tests.{params_counted, locals_there, vars_declared, words_long, tests_pass, tests_halt}

-- ---- a body begins

module _ (p : Program) (i : Image) (n : Naming) (m : ℕ) (K : Knows) (T : Type 0) (Stands : T → Frame → Heap → Type 0)
    (code : ℕ) (it : Code) (there : slice_get i.codes code ≡ Some it) where
  begin : (e : Entry) (first b : ℕ) → EntryIs p i n e code → length it.params ≡ suc (length e.vars)
      → Run it.instrs (tests e.vars) 0 first
      → ((r : Value) (args : List Value) (h : Heap) → MayEnter K e (r ∷ args) h
      → has_null_path (frame_of e r args).vars ≡ false → AreIn p (frame_of e r args) h →
      StatementsGo p i n m K T Stands code it e first b r args h)
      → Entered p i n m K b e code
  begin e first b entry many runs statements x a r args words c there2 ma are may =
      of_words words are.are
    where
      f : Frame
      f = frame_of e r args

      same : it ≡ c
      same = got_same it c (sym there ∙ there2)

      long : length args ≡ length e.vars
      long = let l = may.long in omega (arith, l)

      declared : declared_vars f.vars ≡ e.vars
      declared = vars_declared e.vars args long

      runs_there : Run it.instrs (tests (declared_vars f.vars)) 0 first
      runs_there = subst (λ (vs : List Var). Run it.instrs (tests vs) 0 first) (sym declared) runs

      counted : length (filter is_tested (declared_vars f.vars)) ≡ length (filter is_tested e.vars)
      counted = ap (λ (vs : List Var). length (filter is_tested vs)) declared

      params : AreParams p entry.body e.vars
      params = entry.params

      of_words : (words : List ℤ) → WordsAre p n x.firsts (r ∷ args) words →
          Begins p i n m K b f x (machine.fresh code c words) a (paid e.vars)
      of_words [] ws = absurd ws
      of_words (w ∷ ws) words_are = subst (λ (c : Code). Begins p i n m K b f x (machine.fresh code c (w ∷ ws)) a
          (paid e.vars)) same (record {
            null = λ null. more (tests_halt p i n m K T Stands code it there f f.vars 0 first x a lv [] true locals
                runs_there null);
            goes = λ null in_types.
                let s = statements r args x.heap may null in_types in
                let l = s.go.by f x a lv [] true refl
                (retrimmed p n it f (entry_site e) [] f x lv [] placed) ma s.stands in
                eased (tests_pass p i n m K T Stands code it there f f.vars 0 first b 8 f x a lv [] true (frame_views f)
                ma locals runs_there null in_types l);
          })
        where
          lv : List ℤ
          lv = (w ∷ ws) ++ replicate (length it.locals) (pos 0)

          locals : (y : Variable) → Among f.vars y → (z : ℤ) × (slice_get lv y.var.path ≡ Some z) × IsWord p n
              x.firsts y.value z
          locals = locals_there p n x.firsts e.vars args ws (w ∷ []) (replicate (length it.locals) (pos 0)) 1 refl
              (params_counted p entry.body [] entry.body.method.params e.vars params tt) words_are.1

          more : Comes i m (active code 0 lv [] true) a (Faults machine.Null)
              (3 * length (filter is_tested (declared_vars f.vars))) →
              Comes i m (active code 0 lv [] true) a (Faults machine.Null) (paid e.vars)
          more k = comes_within p i n m K (active code 0 lv [] true) a _ _ (paid e.vars)
              (let l = counted in omega (arith, l)) k

          eased : LocalAt p i n m K f b f.todo f x (active code 0 lv [] true) a
              (3 * length (filter is_tested (declared_vars f.vars)) + 8) →
              LocalAt p i n m K f b f.todo f x (active code 0 lv [] true) a (paid e.vars)
          eased l = spare p i n m K f b f.todo f x (active code 0 lv [] true) a _ (paid e.vars)
              (let l = counted in omega (arith, l)) l

          placed : Placed p n it f (entry_site e) f x lv []
          placed = record {
            class = refl;
            method = refl;
            result = refl;
            scope = declared;
            long = (let ws_long = words_long p n x.firsts args ws words_are.1 in
                let parts = length-append (w ∷ ws) (replicate (length it.locals) (pos 0)) in
                let rest = length-replicate (length it.locals) (pos 0) in
                let whole = length-append it.params it.locals in
                omega (arith, ws_long, parts, rest, whole, many, long));
            this = (w, refl, words_are.0);
            locals = locals;
            operands = record { are = tt };
          }

-- ---- together

no_body_params : (p : Program) (b : Body) (vars : List Var) (xs : List Param) → length xs ≡ 0 →
    b.method.params ≡ xs → AreParams p b []
no_body_params p b vars [] e same = ap_params same
  where
    ap_params : b.method.params ≡ [] → AreParams p b []
    ap_params e = subst (λ (xs : List Param). Rattle.jn_sem.specs.Does.AreParamsAfter p b [] xs []) (sym e) refl
no_body_params p b vars (x ∷ xs) e same = absurd (omega (arith, e))

bare_has_shape : (p : Program) (b : Body) → b.method.result ≡ None → length b.method.params ≡ 0 →
    HasShape p b (record { params = []; result = 0 })
bare_has_shape p b void none = record {
  vars = [];
  params = no_body_params p b [] b.method.params none refl;
  kinds = refl;
  result = subst (λ (o : Option TypeTerm). ResultKind p b [] o 0) (sym void) refl;
}

has_texts : (p : Program) (i : Image) (n : Naming) → RowsAre p i n → (k : ℕ) → HasText p i k
has_texts p i n rows k text is = at (slice_get i.texts k) refl
  where
    bytes : option_map (λ (x : image.Text). x.bytes) (slice_get i.texts k) ≡ Some text.bytes
    bytes = sym (slice_get-map (λ (x : image.Text). x.bytes) i.texts k)
        ∙ ap (λ (xs : List (List ℕ)). slice_get xs k) rows.texts
        ∙ slice_get-map (λ (x : Text). x.bytes) p.texts k
        ∙ ap (option_map (λ (x : Text). x.bytes)) is

    at : (o : Option image.Text) → slice_get i.texts k ≡ o → SameText i k text
    at None e = absurd (no (sym (ap (option_map (λ (x : image.Text). x.bytes)) e) ∙ bytes))
      where
        no : None ≡ Some text.bytes → ⊥
        no e = cc
    at (Some own) e = record {
      own = own;
      there = e;
      same = got_same own.bytes text.bytes (sym (ap (option_map (λ (x : image.Text). x.bytes)) e) ∙ bytes);
    }

pub entries_follow : (K : Knows) (T : Type 0) (Stands : T → Frame → Heap → Type 0) → EntriesFollow K T Stands
entries_follow K T Stands p i n m code it there rows = record {
  entered = begin p i n m K T Stands code it there;
  started = started p i n m K T Stands code it there rows;
  texts = has_texts p i n rows;
  no_constructor = λ C P b never is void none.
      let s = has_selector p i n rows (C ∷ P) C b (record { params = []; result = 0 }) is
      (bare_has_shape p b void none) in
      never s.0 (record { params = []; result = 0 }) s.1 refl refl;
}
