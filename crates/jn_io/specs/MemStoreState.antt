-- A store in memory as contracts see it, and what each call makes of it.
use Rattle.std.specs.Prelude.{ℕ, Bool, if◌then◌else◌, List, [], unwrap_or, refl}
use Rattle.std.specs.Coded.{Coded, code_by, coded×, coded_ℕ, coded_list}
use Rattle.std.specs.FinMap.{get, code}
use Rattle.jn_io.specs.Calls.{one_more, is_next_listed, count_after}
use Rattle.jn_io.specs.Told.{Files}

pub record MemStoreState : Type 0 where
  pub files : Files
  -- what `begin` opened and no `read` took yet
  pub rest : List ℕ
  -- the numbers of the calls that are to fail
  pub fails : List ℕ
  -- the number of the last call, 0 before the first
  pub calls : ℕ
  pub read_faults : ℕ
  pub save_faults : ℕ

abbrev pub state_code : Coded MemStoreState
state_code =
    code_by (Files × (List ℕ × (List ℕ × (ℕ × (ℕ × ℕ)))))
    (coded× (code (coded_list coded_ℕ) (coded_list coded_ℕ)) (coded× (coded_list coded_ℕ) (coded× (coded_list coded_ℕ) (coded× coded_ℕ (coded× coded_ℕ coded_ℕ)))))
    (λ s. (s.files, (s.rest, (s.fails, (s.calls, (s.read_faults, s.save_faults))))))
    (λ p. record { files = p.0; rest = p.1.0; fails = p.1.1.0; calls = p.1.1.1.0; read_faults = p.1.1.1.1.0; save_faults = p.1.1.1.1.1 })
    (λ _. refl)

-- whether the next call is listed
abbrev pub is_listed : MemStoreState → Bool
is_listed s = is_next_listed s.fails s.calls

-- what the next call leaves to be read if it is a `begin`: the file's bytes, or nothing where it fails
abbrev pub begun_rest : MemStoreState → List ℕ → List ℕ
begun_rest s name = if is_listed s then [] else unwrap_or (get s.files name) []

-- a `begin` or a `read` leaves this rest, and a listed one raises its count
abbrev pub after_reading : MemStoreState → List ℕ → MemStoreState
after_reading s rest = record s {
  rest = rest;
  calls = one_more s.calls;
  read_faults = count_after (is_listed s) s.read_faults;
}

-- a `save` leaves these files, and a listed one raises its count
abbrev pub after_saving : MemStoreState → Files → MemStoreState
after_saving s files = record s {
  files = files;
  calls = one_more s.calls;
  save_faults = count_after (is_listed s) s.save_faults;
}
