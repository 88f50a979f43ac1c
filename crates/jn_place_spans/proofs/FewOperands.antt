-- The code of each body of a source holds few operands: the marks and operators of a source nest within the limit.
use Rattle.std.proofs.Common.{◌≡◌, ◌≤◌, ℕ, suc, List, [], ◌∷◌, ◌++◌, map, refl, sym, ap, ◌∙◌, subst, arith}
use Rattle.std.specs.Prelude.{◌-◌, Some, slice_get}
use Rattle.jn_base.specs.declared.tree.Method.{Method}
use Rattle.jn_base.specs.declared.tree.Kind.{Kind}
use Rattle.jn_base.specs.declared.tree.Decl.{Decl}
use Rattle.jn_base.specs.declared.tree.Member.{Member, out-Member, fold-Member}
use Rattle.jn_base.specs.declared.tree.Member.TheOpen.{Member-F}
use Rattle.jn_base.specs.declared.tree.Member.TheFolds.{map-Member, fold_out-Member, fold_out-Decl}
use Rattle.jn_base.specs.declared.tree.Member.TheVariants as member
use Rattle.jn_base.specs.declared.tree.Member.TheVariants.{outs-Inner, outs-Slot, outs-Body}
use Rattle.jn_base.specs.declared.tree.Program.{Program}
use Rattle.jn_base.specs.declared.refusal.Limit.TheVariants as limit
use Rattle.jn_base.specs.Parts.{Part, Role, Plain, Opens, Declares, Parameter, Local, Atom}
use Rattle.jn_base.specs.Paths.{Path}
use Rattle.jn_base.specs.Spelling.{limit_of, IsTextOf}
use Rattle.jn_base.specs.Atoms.{Among, first, later}
use Rattle.jn_base.specs.GrammarDecl as g
use Rattle.jn_sem.specs.Does.{Body}
use Rattle.jn_sem.proofs.FindingLaws.{contains_of}
use Rattle.jn_laws.proofs.CleanTexts.{at_most, within_limits}
use Rattle.jn_agree.specs.Rows.{InOrder, of_member, one_by_one, of_decl, bodies_of}
use Rattle.jn_size_laws.specs.LawsOfOperands.{NestsRole, NestsOne, Nests}
use Rattle.jn_size_laws.proofs.Operands.{stmts_hold}
use Rattle.jn_place_spans.specs.LawsOfUntyped.{HoldsFew, SourcesHoldFew}

-- ---- words that nest within the limit

nests_front : (v w : List Part) → Nests (v ++ w) → Nests v
nests_front [] w h = tt
nests_front (x ∷ v) w h = (h.0, nests_front v w h.1)

nests_back : (v w : List Part) → Nests (v ++ w) → Nests w
nests_back [] w h = h
nests_back (x ∷ v) w h = nests_back v w h.1

all_nest : (w : List Part) → ((t : Part) → Among w t → NestsOne t) → Nests w
all_nest [] each = tt
all_nest (t ∷ w) each = (each t first, all_nest w (λ u m. each u (later m)))

role_nests : (r : Role) → ((n : ℕ) → r ≡ Opens n → n ≤ 200) → NestsRole r
role_nests (Opens n) low = low n refl
role_nests Plain low = tt
role_nests (Declares n) low = tt
role_nests (Parameter n) low = tt
role_nests (Local n) low = tt
role_nests (Atom n) low = tt

text_nests : (p : Program) (bytes : List ℕ) (text : IsTextOf p bytes) → Nests text.spelled.parts
text_nests p bytes text = all_nest text.spelled.parts (λ t m. role_nests t.role (λ n e.
    at_most 200 n limit.Nesting (λ i. within_limits p bytes text t (contains_of text.spelled.parts t m) limit.Nesting
    (ap limit_of e ∙ i))))

-- ---- the bodies of a declaration

AllFew : List Body → Type 0
AllFew [] = Unit {0}
AllFew (b ∷ bs) = HoldsFew b × AllFew bs

few_joined : (fs bs : List Body) → AllFew fs → AllFew bs → AllFew (fs ++ bs)
unfolding AllFew
few_joined [] bs f g = g
few_joined (b ∷ fs) bs f g = (f.0, few_joined fs bs f.1 g)

no_few : AllFew []
unfolding AllFew
no_few = tt

one_few : (b : Body) → HoldsFew b → AllFew (b ∷ [])
unfolding AllFew
one_few b f = (f, tt)

few_at : (bs : List Body) → AllFew bs → (j : ℕ) (b : Body) → slice_get bs j ≡ Some b → HoldsFew b
unfolding AllFew
few_at [] f j b e = absurd (no e) where
  no : slice_get {X = Body} [] j ≡ Some b → ⊥
  no e = cc
few_at (c ∷ bs) f ℕ.zero b e = subst HoldsFew (same e) f.0 where
  same : Some c ≡ Some b → c ≡ b
  same e = cc
few_at (c ∷ bs) f (suc j) b e = few_at bs f.1 j b e

one_member : Member → InOrder
one_member = fold-Member InOrder InOrder of_member (λ d P. one_by_one d.members (d.name.name ∷ P))

decl_is : (d : Decl) → of_decl d ≡ (λ P. one_by_one (map one_member d.members) (d.name.name ∷ P))
unfolding of_decl one_member
decl_is d = fold_out-Decl InOrder InOrder of_member (λ d P. one_by_one d.members (d.name.name ∷ P)) d

member_is : (m : Member) (o : Member-F Member Decl) → out-Member m ≡ o
    → one_member m ≡ of_member (map-Member Member Decl InOrder InOrder one_member of_decl o)
unfolding of_decl one_member
member_is m o e =
    fold_out-Member InOrder InOrder of_member (λ d P. one_by_one d.members (d.name.name ∷ P)) m
    ∙ ap (λ (o : Member-F Member Decl). of_member (map-Member Member Decl InOrder InOrder one_member of_decl o)) e

mutual
  of_inner : (d n : ℕ) (w : List Part) (t : Decl) → g.IsInner d n w t → Nests w → (R : Path) → AllFew (of_decl t R)
  of_inner d n w0 t0 (g.inner {k = k} {x = x} {p = p} o c {t = t} {u = u} {v = v} {w = w}
      {es = es} {ss = ss} {ms = ms} is ls ls' h) nests R =
      let whole = g.decl k (record { name = x; at = p }) es ss [] ms in
      let behind = nests_back v _ (nests_back u _ nests.1.1) in
      subst (λ (f : InOrder). AllFew (f R)) (sym (decl_is whole))
      (of_members k (suc d) (suc n) w ms h (nests_front w _ behind.1) (x ∷ R))

  of_one : (k : Kind) (d n : ℕ) (w : List Part) (m : Member) → g.IsMember k d n w m → Nests w → (R : Path)
      → AllFew (one_member m R)
  of_one k d n w m (g.declared {t = t} h) nests R =
      subst (λ (f : InOrder). AllFew (f R)) (sym (member_is (member.Inner t) _ (outs-Inner t)))
      (of_inner d n w t h nests R)
  of_one k d n w m (g.slot {x = x} p s {w = v} {t = t} h) nests R =
      subst (λ (f : InOrder). AllFew (f R))
      (sym (member_is (member.Slot (record { ty = t; name = record { name = x; at = p } })) _
      (outs-Slot (record { ty = t; name = record { name = x; at = p } })))) no_few
  of_one k d n w0 m (g.method {m = last} {x = x} p o c b e {r = r} {v = v} {u = u} {w = w} {res = res} {ts = ts}
      {cs = cs} {ss = ss} gives given shares stmts) nests R =
      let f : Method = record {
        result = res;
        name = record { name = x; at = p };
        params = ts;
        sharing = cs;
        body = ss;
      } in
      let behind = nests_back u _ (nests_back v _ (nests_back r _ nests).1.1).1 in
      let low = behind.0 in
      subst (λ (k : InOrder). AllFew (k R)) (sym (member_is (member.Body f) _ (outs-Body f)))
      (one_few (record { class = R; method = f })
      (λ few. stmts_hold (suc d) (200 - suc d) (omega (arith, low)) 0 last w ss stmts (nests_front w _ behind.1) few))

  of_members : (k : Kind) (d n : ℕ) (w : List Part) (ms : List Member) → g.IsMembers k d n w ms → Nests w → (R : Path)
      → AllFew (one_by_one (map one_member ms) R)
  of_members k d n w ms g.no_member nests R = no_few
  of_members k d n w0 ms0 (g.then_member {v = v} {w = w} {t = t} {ts = ts} h hs) nests R =
      few_joined (one_member t R) (one_by_one (map one_member ts) R) (of_one k d n v t h (nests_front v w nests) R)
      (of_members k d n w ts hs (nests_back v w nests) R)

of_top : (w : List Part) (t : Decl) → g.IsTop w t → Nests w → (R : Path) → AllFew (of_decl t R)
of_top w0 t0 (g.top {k = k} {x = x} {p = p} o c {t = t} {u = u} {v = v} {w = w}
    {es = es} {adapted = fs} {ms = ms} is ls ls' h) nests R =
    let whole = g.decl k (record { name = x; at = p }) es [] fs ms in
    let behind = nests_back v _ (nests_back u _ nests.1.1) in
    subst (λ (f : InOrder). AllFew (f R)) (sym (decl_is whole)) (of_members k 1 2 w ms h (nests_front w _ behind.1)
    (x ∷ R))

of_tops : (w : List Part) (ds : List Decl) → g.IsProgram w ds → Nests w → AllFew (one_by_one (map of_decl ds) [])
of_tops w ds g.no_top nests = no_few
of_tops w0 ds0 (g.then_top {v = v} {w = w} {t = t} {ts = ts} h hs) nests =
    few_joined (of_decl t []) (one_by_one (map of_decl ts) []) (of_top v t h (nests_front v w nests) [])
    (of_tops w ts hs (nests_back v w nests))

pub sources_hold_few : SourcesHoldFew
sources_hold_few p bytes text j b at =
    few_at (bodies_of p) (of_tops text.spelled.parts p.decls text.spelled.is_program (text_nests p bytes text)) j b at
