-- Output that goes to a sink in pieces.
use Rattle.std.specs.Prelude.{◌≡◌, ℕ, ◌*◌, List, ◌++◌, length}
use Rattle.std.specs.declared.option.Option.{Option}
use Rattle.std.specs.Io.KnownBytes.{append_known}
use Rattle.jn_steps.specs.Laws.{IsPrefix}

-- These bytes came behind those that waited, b, and c waits now. What went out went in pieces of 8,192 bytes.
pub record Wrote (before now : Option (List ℕ)) (b c bytes : List ℕ) : Type 0 where
  pub gone : List ℕ
  pub pieces : ℕ
  pub whole : length gone ≡ pieces * 8192
  pub took : now ≡ append_known before gone
  pub same : gone ++ c ≡ b ++ bytes

-- The sink failed, and took a prefix of what there was.
pub record Cut (before now : Option (List ℕ)) (bytes : List ℕ) : Type 0 where
  pub gone : List ℕ
  pub took : now ≡ append_known before gone
  pub first : IsPrefix gone bytes
