use Rattle.jn_grammar.proofs.Refusals.{checked_clean, checked_not_refused, refused_there, refused_once}
use Rattle.jn_grammar.proofs.Sources.{checked_spelled, checked_only}
use Rattle.jn_grammar.proofs.laws.checked_programs.Goals as goal

pub returns-clause-found : goal.returns-clause-found
returns-clause-found c ws x e = checked_spelled ws x e

pub returns-clause-clean : goal.returns-clause-clean
returns-clause-clean c ws x e = checked_clean ws x e

pub returns-clause-only : goal.returns-clause-only
returns-clause-only c parts x i k = checked_only parts x i k

pub returns-clause-refused : goal.returns-clause-refused
returns-clause-refused c front last f h e = refused_there front last f h e

pub returns-clause-not_refused : goal.returns-clause-not_refused
returns-clause-not_refused c ws x e r at l h = checked_not_refused ws x e r at l h

pub returns-clause-once : goal.returns-clause-once
returns-clause-once c ws r q at p l m g h = refused_once ws r q at p l m g h
