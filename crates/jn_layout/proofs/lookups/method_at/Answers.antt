use Rattle.jn_layout.proofs.LookupProof.{no_method, no_least, method_none, method_found}
use Rattle.std.proofs.Common.{subst, sym, map, length}
use Rattle.jn_names.specs.Members.{LeastIs}
use Rattle.jn_index.specs.Index.{IsIndex}
use Rattle.jn_layout.specs.Keys.{body_key}
use Rattle.jn_layout.specs.Finding.{ShapesTold}
use Rattle.jn_layout.proofs.lookups.method_at.Goals as goal

pub returns-in-None : goal.returns-in-None
returns-in-None c = λ p t n R names bodies a o i.
    no_method p t c.args.m.now names bodies n a c.args.id R i c.args.name
    (subst (LeastIs p t.known.items R c.args.name) c.in-None.is (c.least.ensures p t R a.members i))

pub returns-in-Many : goal.returns-in-Many
returns-in-Many c = λ p t n R names bodies a o i.
    no_least p t c.args.m.now names bodies n a c.args.id R i c.args.name
    (subst (LeastIs p t.known.items R c.args.name) c.in-Many.is (c.least.ensures p t R a.members i)).1

pub returns-in-None-find_body : goal.returns-in-None-find_body
returns-in-None-find_body c = λ p t n R names bodies a o i.
    method_none p t c.args.m.now names bodies n a c.args.id R i c.args.name c.in-One.class
    (subst (LeastIs p t.known.items R c.args.name) c.in-One.is (c.least.ensures p t R a.members i)) (c.in-None-find_body.ensures.none bodies (subst (IsIndex (map body_key bodies)) (sym c.deref.ensures.value) o.by_class))

pub returns-in-Some : goal.returns-in-Some
returns-in-Some c = λ p t n R names bodies a o i.
    method_found p t c.args.m.now names bodies n a c.args.id R i c.args.name c.in-One.class
    (subst (LeastIs p t.known.items R c.args.name) c.in-One.is (c.least.ensures p t R a.members i)) c.in-Some.place (c.in-Some.ensures.some bodies (subst (IsIndex (map body_key bodies)) (sym c.deref.ensures.value) o.by_class)) c.method_pair.result
    (c.method_pair.ensures names bodies (subst (ShapesTold names bodies (length bodies)) (sym c.deref-in-Some.ensures.value) o.shapes))
