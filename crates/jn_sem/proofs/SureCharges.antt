-- Each charge leads to one state, and one alone; and it keeps what was printed.
use Rattle.std.proofs.Common.{◌≡◌, ℕ, List, [], ◌∷◌, ◌++◌, length, Option, Some, None, Bool, true, false, sym, ◌∙◌, subst}
use Rattle.std.specs.Prelude.{not, cond, nat_lt}
use Rattle.std.proofs.lemmas.List.{append-nil, append_assoc}
use Rattle.jn_steps.specs.Runs.{On, End}
use Rattle.jn_steps.specs.Steps.{Goes, Enters, Leaves, Falls, Faults}
use Rattle.jn_steps.specs.Laws.{IsPrefix, KeepsOutput}
use Rattle.jn_base.specs.declared.tree.TypeTerm.{TypeTerm}
use Rattle.jn_base.specs.declared.tree.Program.{Program}
use Rattle.jn_sem.specs.Values.{Value}
use Rattle.jn_sem.specs.Acts.{Todo}
use Rattle.jn_sem.specs.State.{Heap, Frame, has_null_path}
use Rattle.jn_sem.specs.Does.{Ending, Entry, Did}
use Rattle.jn_sem.specs.Asks.{OnTest, holds, fails, OnIf}
use Rattle.jn_sem.specs.Run.{Running, Then, over, ended, resumed, settled_at, settled, given_first, frame_of, begins, enters, proceeds, acting, charged, frames_charged, Charge, shown}
use Rattle.jn_sem.proofs.Sure.{Sure, sure_it, sure_test, sure_if}
use Rattle.jn_sem.proofs.SureActs.{sure_does}

-- ---- one, and there

sure_begins : (p : Program) (f : Frame) (fs : List Frame) (h : Heap) (out : List ℕ) → Sure (begins p f fs h out)
sure_begins p f fs h out = sure_if (not (has_null_path f.vars)) _ _ (sure_it _) (sure_test (sure_it _) (sure_it _))

sure_enters : (p : Program) (e : Entry) (args : List Value) (fs : List Frame) (h : Heap) (out : List ℕ) → Sure (enters p e args fs h out)
sure_enters p e [] fs h out = sure_it _
sure_enters p e (r ∷ args) fs h out = sure_begins p (frame_of e r args) fs h out

sure_proceeds : (p : Program) (depth : ℕ) (d : Did) (fs : List Frame) (out : List ℕ) → Sure (proceeds p depth d fs out)
sure_proceeds p depth (Goes f h bytes) fs out = sure_it _
sure_proceeds p depth (Enters e args f h) fs out = sure_if (nat_lt (length fs) depth) _ _ (sure_it _) (sure_enters p e args (f ∷ fs) h out)
sure_proceeds p depth (Leaves v h) fs out = sure_it _
sure_proceeds p depth Falls fs out = sure_it _
sure_proceeds p depth (Faults o) fs out = sure_it _

sure_charged : (p : Program) (m depth : ℕ) (todo : List Todo) (f : Frame) (fs : List Frame) (h : Heap) (out : List ℕ) → Sure (charged p m depth todo f fs h out)
sure_charged p m depth [] f fs h out = sure_it _
sure_charged p m depth (t ∷ k) f fs h out =
    let does = sure_does p m t.act (acting t k f) h in
    record {
      one = λ x y a b. (sure_proceeds p depth a.did fs out).one x y a.proceeds
          (subst (λ d. proceeds p depth d fs out y) (does.one b.did a.did b.does a.does) b.proceeds);
      there = λ no. does.there (λ d g. (sure_proceeds p depth d fs out).there (λ x h. no x (record { did = d; does = g; proceeds = h })));
    }

sure_frames : (p : Program) (m depth : ℕ) (fs : List Frame) (h : Heap) (out : List ℕ) → Sure (frames_charged p m depth fs h out)
sure_frames p m depth [] h out = sure_it _
sure_frames p m depth (f ∷ fs) h out = sure_charged p m depth f.todo f fs h out

pub sure_charge : (p : Program) (m depth : ℕ) (s : Running) → Sure (Charge p m depth s)
sure_charge p m depth s = sure_frames p m depth s.frames s.heap s.output

-- ---- the output

kept_whole : (out : List ℕ) → IsPrefix out out
kept_whole out = ([], append-nil out)

at_end : (t : Option TypeTerm) (out : List ℕ) (below : Then) → KeepsOutput shown out below → KeepsOutput shown out (ended t out below)
at_end None out below k = k
at_end (Some t) out below k = kept_whole out

at_cond : (b : Bool) (why : Ending) (out : List ℕ) (below : Then) → KeepsOutput shown out below → KeepsOutput shown out (cond b (over why out) below)
at_cond true why out below k = kept_whole out
at_cond false why out below k = k

at_resumed : (v : Option Value) (fs : List Frame) (out : List ℕ) (below : Then) → KeepsOutput shown out below
    → KeepsOutput shown out (resumed v fs out below)
at_resumed (Some v) fs out below k = k
at_resumed None [] out below k = k
at_resumed None (f ∷ fs) out below k = at_cond f.keeps _ out below k

at_todo : (todo : List Todo) (f : Frame) (fs : List Frame) (h : Heap) (out : List ℕ) (below : Then) → KeepsOutput shown out below
    → KeepsOutput shown out (settled_at todo f fs h out below)
at_todo [] f fs h out below k = at_end f.method.result out below k
at_todo (t ∷ ts) f fs h out below k = kept_whole out

settled_keeps : (fs : List Frame) (h : Heap) (out : List ℕ) → KeepsOutput shown out (settled fs h out)
settled_keeps [] h out = kept_whole out
settled_keeps (f ∷ fs) h out =
    at_todo f.todo f fs h out (resumed None fs out (settled fs h out)) (at_resumed None fs out (settled fs h out) (settled_keeps fs h out))

prefix_of : (a b c : List ℕ) → IsPrefix (a ++ b) c → IsPrefix a c
prefix_of a b c h = (b ++ h.0, sym (append_assoc a b h.0) ∙ h.1)

then_keeps : (out bytes : List ℕ) (x : Then) → KeepsOutput shown (out ++ bytes) x → KeepsOutput shown out x
then_keeps out bytes (On s) h = prefix_of out bytes s.output h
then_keeps out bytes (End o put) h = prefix_of out bytes put h

it_keeps : (out : List ℕ) (x y : Then) → KeepsOutput shown out x → y ≡ x → KeepsOutput shown out y
it_keeps out x y k e = subst (KeepsOutput shown out) (sym e) k

if_keeps : (b : Bool) (Else Go : Then → Type 0) (out : List ℕ) (x : Then) → ((y : Then) → Else y → KeepsOutput shown out y)
    → ((y : Then) → Go y → KeepsOutput shown out y) → OnIf b Else Go x → KeepsOutput shown out x
if_keeps true Else Go out x e g h = g x h
if_keeps false Else Go out x e g h = e x h

test_keeps : (Is : Type 0) (Else Go : Then → Type 0) (out : List ℕ) (x : Then) → ((y : Then) → Else y → KeepsOutput shown out y)
    → ((y : Then) → Go y → KeepsOutput shown out y) → OnTest Is Else Go x → KeepsOutput shown out x
test_keeps Is Else Go out x e g (holds is h) = g x h
test_keeps Is Else Go out x e g (fails none h) = e x h

enters_keeps : (p : Program) (e : Entry) (args : List Value) (fs : List Frame) (h : Heap) (out : List ℕ) (x : Then)
    → enters p e args fs h out x → KeepsOutput shown out x
enters_keeps p e [] fs h out x g = it_keeps out _ x (kept_whole out) g
enters_keeps p e (r ∷ args) fs h out x g =
    if_keeps (not (has_null_path (frame_of e r args).vars)) _ _ out x (λ y. it_keeps out _ y (kept_whole out))
    (λ y. test_keeps _ _ _ out y (λ z. it_keeps out _ z (kept_whole out)) (λ z. it_keeps out _ z (settled_keeps (frame_of e r args ∷ fs) h out))) g

proceeds_keeps : (p : Program) (depth : ℕ) (d : Did) (fs : List Frame) (out : List ℕ) (x : Then) → proceeds p depth d fs out x → KeepsOutput shown out x
proceeds_keeps p depth (Goes f h bytes) fs out x g =
    it_keeps out _ x (then_keeps out bytes (settled (f ∷ fs) h (out ++ bytes)) (settled_keeps (f ∷ fs) h (out ++ bytes))) g
proceeds_keeps p depth (Enters e args f h) fs out x g =
    if_keeps (nat_lt (length fs) depth) _ _ out x (λ y. it_keeps out _ y (kept_whole out)) (λ y. enters_keeps p e args (f ∷ fs) h out y) g
proceeds_keeps p depth (Leaves v h) fs out x g =
    it_keeps out _ x (at_resumed v fs out (settled (given_first v fs) h out) (settled_keeps (given_first v fs) h out)) g
proceeds_keeps p depth Falls fs out x g = it_keeps out _ x (kept_whole out) g
proceeds_keeps p depth (Faults o) fs out x g = it_keeps out _ x (kept_whole out) g

charged_keeps : (p : Program) (m depth : ℕ) (todo : List Todo) (f : Frame) (fs : List Frame) (h : Heap) (out : List ℕ) (x : Then)
    → charged p m depth todo f fs h out x → KeepsOutput shown out x
charged_keeps p m depth [] f fs h out x g = it_keeps out _ x (settled_keeps (f ∷ fs) h out) g
charged_keeps p m depth (t ∷ k) f fs h out x g = proceeds_keeps p depth g.did fs out x g.proceeds

frames_keep : (p : Program) (m depth : ℕ) (fs : List Frame) (h : Heap) (out : List ℕ) (x : Then) → frames_charged p m depth fs h out x → KeepsOutput shown out x
frames_keep p m depth [] h out x g = it_keeps out _ x (kept_whole out) g
frames_keep p m depth (f ∷ fs) h out x g = charged_keeps p m depth f.todo f fs h out x g

pub charge_keeps : (p : Program) (m depth : ℕ) (s : Running) (x : Then) → Charge p m depth s x → KeepsOutput shown s.output x
charge_keeps p m depth s x g = frames_keep p m depth s.frames s.heap s.output x g
