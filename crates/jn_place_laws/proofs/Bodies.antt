-- EACH CODE GOES WITH ITS BODY, where it stands at its places.
use Rattle.std.proofs.Common.{◌≡◌, ◌≤◌, ◌<◌, ℕ, suc, List, [], ◌∷◌, length, Option, Some, None, false, refl, sym, ap, ◌∙◌, subst, arith}
use Rattle.std.specs.Prelude.{slice_get, Ok}
use Rattle.std.proofs.lemmas.List.{length-map}
use Rattle.jn_base.specs.declared.tree.TypeTerm.{TypeTerm}
use Rattle.jn_base.specs.declared.tree.Program.{Program}
use Rattle.jn_base.specs.declared.names.Var.{Var}
use Rattle.jn_base.specs.Members.{MethodAt}
use Rattle.jn_base.specs.WithinLimits.{IsWithinLimits}
use Rattle.jn_code.specs.declared.image.Image.{Image}
use Rattle.jn_code.specs.declared.image.Code.{Code}
use Rattle.jn_sem.specs.Values.{Value}
use Rattle.jn_sem.specs.State.{Heap, Frame, has_null_path}
use Rattle.jn_sem.specs.Acts.{Todo, stmts_acts, path_behind}
use Rattle.jn_sem.specs.Does.{Body, Entry, AreParams}
use Rattle.jn_sem.specs.Run.{frame_of, AreIn}
use Rattle.jn_sem.proofs.FindingLaws.{finds_one}
use Rattle.jn_laws.proofs.PlacesAside.{programs_within_limits}
use Rattle.jn_rules.specs.Headers.{Header, header_typed}
use Rattle.jn_rules.specs.Questions.{Gives}
use Rattle.jn_rules.specs.Stmts.{at_start, stmts_type}
use Rattle.jn_rules.specs.Verdict.{TreePasses}
use Rattle.jn_rules.proofs.PlanLaws.{then_came}
use Rattle.jn_rule_laws.specs.LawsOfHeaders.{IsHeader, ResultIs}
use Rattle.jn_rule_laws.proofs.Declared.{headers_of}
use Rattle.jn_rule_laws.proofs.HeaderLaws.{header_back}
use Rattle.jn_sound.specs.KnownScopes.{itself}
use Rattle.jn_sound.specs.Sound.{body_of}
use Rattle.jn_sound.specs.Takes.{Typing, typing}
use Rattle.jn_sound.proofs.Laws.{Laws}
use Rattle.jn_sound.proofs.Accepted.{laws}
use Rattle.jn_sound.proofs.BodiesPass.{body_passes}
use Rattle.jn_sound.proofs.StartKnown.{start_known, start_few}
use Rattle.jn_sound.proofs.Steps.{standing_begun}
use Rattle.jn_sound.proofs.Ways.{surely, and_so}
use Rattle.jn_rule_laws.proofs.Behind.{all_move}
use Rattle.jn_sound.proofs.NeverStuck.{needs_are_met}
use Rattle.jn_agree.specs.Naming.{Naming}
use Rattle.jn_agree.specs.Rows.{RowsAre, result_kind, kind_of_type}
use Rattle.jn_agree.specs.Places.{Run, tests, last_return}
use Rattle.jn_agree.specs.Follows.{EntryIs, Entered, MayEnter, LocalAt, BodyAgrees}
use Rattle.jn_node_laws.specs.Cont.{ContOn, active}
use Rattle.jn_node_laws.specs.LawsOfEntries.{StatementsGo}
use Rattle.jn_node_laws.proofs.Entries.{entries_follow}
use Rattle.jn_node_laws.proofs.Laws.{follow}
use Rattle.jn_node_laws.proofs.LaidLaws.{laid_follow}
use Rattle.jn_places.specs.StmtPlaces.{StmtsAt, TypedBodyAt}
use Rattle.jn_place_laws.specs.Contexts.{Context, context, Stood, known, in_body, site_at}
use Rattle.jn_place_laws.specs.LawsOfContexts.{ActsLead}
use Rattle.jn_place_laws.proofs.Laws.{acts_lead_so, facts_hold}
use Rattle.jn_place_laws.proofs.Going.{Go}
use Rattle.jn_place_laws.proofs.Formed.{body_known, typing_known}
use Rattle.jn_place_laws.proofs.Others.{other_forms}
use Rattle.jn_body_laws.proofs.Formed.{bodies_formed}
use Rattle.jn_sound.specs.Tree.{ProgramKnown}
use Rattle.jn_node_laws.specs.Facts.{FewNumbers}
use Rattle.jn_place_laws.proofs.Stmts.{stmts_go}

-- a context in a body that was entered with that frame, and whose header is this
record InEntry : Type 0 where
  frame : Frame
  header : Header
  context : Context

abbrev StandsThere : Program → InEntry → Frame → Heap → Type 0
StandsThere p t f h = Stood p t.frame t.header t.context f h

abbrev entry_body : Entry → Body
entry_body e = record { class = e.class; method = e.method }

same_body : (b c : Body) → b.class ≡ c.class → b.method ≡ c.method → b ≡ c
same_body b c e f j = record { class = e j; method = f j }

module _ (p : Program) (w : IsWithinLimits p) (ok : TreePasses p) (i : Image) (n : Naming) (m : ℕ)
    (rows : RowsAre p i n) (few : FewNumbers n) (high : m < 4294967296) where
  all_laws : Laws p
  all_laws = laws p (programs_within_limits p w) ok (needs_are_met p w ok)

  its : ProgramKnown p
  its =
      let within = programs_within_limits p w in
      record {
        once = ok.bodies.once;
        members = ok.bodies.headers.limits.members;
        shallow = within.shallow;
        well = within.formed;
        bodies = bodies_formed p w;
      }

  module _ (code : ℕ) (it : Code) (there : slice_get i.codes code ≡ Some it) (r : Frame) (hd : Header)
      (declared : MethodAt p r.class r.method.name.name r.method) (head : IsHeader p (body_of r) hd)
      (scratch : ℕ) where
    abbrev G : ℕ → List Var → Typing → List Todo → ℕ → ℕ → Type 0
    G = Go p i n m code it r hd

    leads : ActsLead p i n m code it r hd
    leads = acts_lead_so p all_laws i n m code it r hd

    -- ---- the end of a body

    some_none : (t : TypeTerm) (o q : Option TypeTerm) → o ≡ Some t → q ≡ o → q ≡ None → ⊥
    some_none t o q e f g = no (sym (f ∙ e) ∙ g) where
      no : Some t ≡ None → ⊥
      no e = cc

    -- in a method with a result it is never reached
    never : (t : TypeTerm) → r.method.result ≡ Some t → (b : ℕ) (vs : List Var) (z : Typing) (s v : ℕ) → G b vs z [] s v
    never t e b vs z s v = record {
      by = λ f x a lv vals keeps is placed ma st.
          subst (λ (k : List Todo). LocalAt p i n m (known p) r b k f x (active code s lv vals keeps) a v) (sym is)
          (λ none. absurd (some_none t r.method.result f.method.result e placed.result none));
    }

    body_ends : (o : Option TypeTerm) → r.method.result ≡ o → ResultIs p (body_of r) hd.vars o hd.result → (kind : ℕ)
        → kind ≡ result_kind hd.result → (s e : ℕ) → Run it.instrs (last_return kind) s e → (b : ℕ) (vs : List Var)
        (z : Typing) → G b vs z [] s 8
    body_ends (Some t) is res kind k s e run b vs z = never t is b vs z s 8
    body_ends None is res kind k s e run b vs z =
        (follow (known p) Context (Stood p r hd) p i n m code it r there rows).end b (site_at r hd vs) (context vs z) s 8
        (subst (λ (q : ℕ). Run it.instrs (last_return q) s e) (k ∙ ap result_kind res) run).0 (omega arith)
        (λ f h st none. leads.ends (context vs z) f h st none)

    -- ---- the statements, from the first one to the end

    pub body_goes : (places : TypedBodyAt p n (body_of r) hd it)
        → scratch ≡ path_behind r.method.body (suc (length hd.vars)) → (b : ℕ)
        → G b hd.vars (typing (at_start (body_of r) hd).scope [])
        (stmts_acts (length hd.vars) (suc (length hd.vars)) r.method.body []) places.first 8
    body_goes places at b =
        let within = programs_within_limits p w in
        let c = then_came (stmts_type (in_body r hd) r.method.body (at_start (body_of r) hd)) _ tt
        (body_passes p ok.bodies.bodies (body_of r) r.method.name.name hd declared head) in
        let a = all_move p (in_body r hd) r.method.body (at_start (body_of r) hd) c.first c.gave in
        let some : 0 < scratch = (let l = a.grows in let e = a.next in omega (arith, l, e, at)) in
        let tk = typing_known p (in_body r hd) its declared in
        let go = stmts_go p within.shallow within.formed i n m code it there r hd
        (follow (known p) Context (Stood p r hd) p i n m code it r there rows)
        (laid_follow (known p) Context (Stood p r hd) p i n m code it r there rows) leads
        (facts_hold p all_laws i n m code it r hd)
        (entries_follow (known p) Context (Stood p r hd) p i n m code it there rows).texts scratch
        (subst (λ (q : ℕ). q ≤ 256) (sym at) (start_few p within (body_of r) r.method.name.name hd declared head))
        r.method.body tk
        (other_forms p its all_laws within.limits i n rows few m high code it there r hd
        (laid_follow (known p) Context (Stood p r hd) p i n m code it r there rows) leads
        (facts_hold p all_laws i n m code it r hd) scratch some r.method.body (body_known p (in_body r hd) its declared).formed
        tk)
        (at_start (body_of r) hd) r.method.body places.first places.last
        (subst (λ (q : ℕ). StmtsAt p n q it (in_body r hd) (at_start (body_of r) hd) r.method.body places.first
        places.last) (sym at) places.stmts)
        (λ u u_in. itself u_in) (start_known p within (body_of r) r.method.name.name hd declared head) c.first
        (subst (λ (q : ℕ). q ≤ scratch) (sym a.next) (subst (λ (q : ℕ). q ≤ scratch) at (omega arith)))
        c.gave in
        go.1 b [] 8
        (body_ends r.method.result refl head.result it.result (places.result ∙ places.is_shape.result) places.last
        (length it.instrs) places.over b c.first.vars (typing c.first.scope []))

  -- ---- from the entry on

  pub body_entered : (e : Entry) (code : ℕ) (it : Code) → slice_get i.codes code ≡ Some it → EntryIs p i n e code
      → MethodAt p e.class e.method.name.name e.method
      → ((hd : Header) → IsHeader p (entry_body e) hd → TypedBodyAt p n (entry_body e) hd it)
      → (b : ℕ) → Entered p i n m (known p) b e code
  body_entered e code it there is declared places b =
      (entries_follow (known p) InEntry (StandsThere p) p i n m code it there rows).entered e at.first b is long
      (subst (λ (vs : List Var). Run it.instrs (tests vs) 0 at.first) same at.tested) goes where
        found : (c : Header) × Gives p (header_typed (entry_body e)) (Ok c)
        found = (headers_of p ok.bodies.headers.limits.members.types.headers).methods e.class e.method.name.name e.method
            declared

        hd : Header
        hd = found.0

        head : IsHeader p (entry_body e) found.0
        head = header_back p (entry_body e) found.0 found.1

        at : TypedBodyAt p n (entry_body e) found.0 it
        at = places found.0 head

        same : found.0.vars ≡ e.vars
        same = (finds_one p).params (entry_body e) found.0.vars e.vars head.params
            (subst (λ (y : Body). AreParams p y e.vars) (same_body is.body (entry_body e) is.class is.method) is.params)

        long : length it.params ≡ suc (length e.vars)
        long = ap (λ (l : List ℕ). length l) at.params
            ∙ ap (λ (l : List ℕ). suc (length l)) at.is_shape.params
            ∙ ap suc (length-map found.0.vars (λ (x : Var). kind_of_type x.ty) ∙ ap (λ (l : List Var). length l) same)

        goes : (o : Value) (args : List Value) (h : Heap) → MayEnter (known p) e (o ∷ args) h
            → has_null_path (frame_of e o args).vars ≡ false → AreIn p (frame_of e o args) h
            → StatementsGo p i n m (known p) InEntry (StandsThere p) code it e at.first b o args h
        goes o args h may nn ai = record {
          typing = there_typed;
          stands = and_so (may.ready nn ai) (λ z. surely (standing_begun all_laws head nn z));
          go = subst (λ (vs : List Var). ContOn p i n m (known p) InEntry (StandsThere p) code it f [] b
              (record { class = e.class; method = e.method.name.name; vars = vs }) there_typed
              (stmts_acts (length vs) (suc (length vs)) e.method.body []) at.first 8) same
              (record { by = λ g x a lv vals keeps k placed ma st. body.by g x a lv vals keeps k placed ma st });
        } where
          f : Frame
          f = frame_of e o args

          there_typed : InEntry
          there_typed = record {
            frame = frame_of e o args;
            header = found.0;
            context = context found.0.vars (typing (at_start (entry_body e) found.0).scope []);
          }

          body : Go p i n m code it (frame_of e o args) found.0 b found.0.vars
              (typing (at_start (entry_body e) found.0).scope [])
              (stmts_acts (length found.0.vars) (suc (length found.0.vars)) e.method.body []) at.first 8
          body = body_goes code it there (frame_of e o args) found.0 declared head
              (path_behind e.method.body (suc (length found.0.vars))) at refl b

  pub bodies_agree : ((e : Entry) (code : ℕ) (it : Code) → slice_get i.codes code ≡ Some it → EntryIs p i n e code
      → MethodAt p e.class e.method.name.name e.method
      × ((hd : Header) → IsHeader p (entry_body e) hd → TypedBodyAt p n (entry_body e) hd it))
      → (b : ℕ) → BodyAgrees p i n m (known p) b
  bodies_agree each b e code is =
      let g = each e code is.code is.there is in body_entered e code is.code is.there is g.0 g.1 b
