use Rattle.jn_sem.proofs.Searches.{chain_found, found_chain}
use Rattle.jn_sem.proofs.Endings.{ends_plainly}
use Rattle.jn_sem.proofs.Seeking.{chain_seeks, enters_older}
use Rattle.jn_sem.proofs.Turning.{turns_are, decided, turn_older}
use Rattle.jn_sem.proofs.laws.searching.Goals as goal

pub returns : goal.returns
returns c p s = record {
  turn = λ x y. chain_seeks;
  found = λ x y. (chain_found, found_chain);
  ends = λ x y. ends_plainly;
  turns = λ x t. turns_are;
  decided = λ x y. decided;
  turns_older = λ f x t h. turn_older f h;
  older = λ f x y e. enters_older f e;
}
