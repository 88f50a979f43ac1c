-- What a job does to the files: `build` makes one, and no other job changes any.
use Rattle.std.specs.Prelude.{◌≡◌, ◌≢◌, ℕ, List, Some}
use Rattle.std.specs.Option.{option_map}
use Rattle.std.specs.FinMap.{insert}
use Rattle.std.specs.declared.option.Option.{Option}
use Rattle.jn_base.specs.declared.tree.Program.{Program}
use Rattle.jn_base.specs.Spelling.{IsTextOf}
use Rattle.jn_rules.specs.Verdict.{TreePasses}
use Rattle.jn_code.specs.declared.image.Image.{Image}
use Rattle.jn_code.specs.Spells.{Spells}
use Rattle.jn_io.specs.Causes.{Rose}
use Rattle.jn_io.specs.Told.{Files}
use Rattle.jn_drive.specs.declared.status.Status.{Status}
use Rattle.jn_drive.specs.declared.status.Status.TheVariants as statuses
use Rattle.jn_drive.specs.declared.words.JobKind.{JobKind}
use Rattle.jn_drive.specs.declared.words.JobKind.TheVariants as kinds
use Rattle.jn_drive.specs.Words.{Job}
use Rattle.jn_drive.specs.Reply.{IsRightImage, memory_reply}
use Rattle.jn_drive.specs.Seen.{Seen, SinkSeen, IsSource, IsPut}

-- The saved bytes spell an image of the accepted program that the bytes of a source spell: one that is valid, has the
-- program's rows, and agrees with the program's meaning.
pub record IsImageFile (bytes saved : List ℕ) : Type 0 where
  pub program : Program
  pub text : IsTextOf program bytes
  pub passes : TreePasses program
  pub image : Image
  pub right : IsRightImage program image
  pub spells : Spells image saved

-- The file named OUT, and no other, was made to hold an image of the program of the job's file.
pub record SavesImage (job : Job) (before after : Seen) : Type 0 where
  pub bytes : List ℕ
  pub source : IsSource before.store.files job.file bytes
  pub saved : List ℕ
  pub is : IsImageFile bytes saved
  pub name : List ℕ
  pub out : job.out ≡ Some name
  pub files : after.store.files ≡ option_map (λ files. insert files name saved) before.store.files

-- All files are as before, and no save failed.
pub record KeepsFiles (before after : Seen) : Type 0 where
  pub files : after.store.files ≡ before.store.files
  pub saves : after.store.save_faults ≡ before.store.save_faults

-- The image is saved where the job is done; else all files are as before. A save fails only where WriteFault is answered.
pub record SavesWhereDone (job : Job) (before after : Seen) (s : Status) : Type 0 where
  pub done : s ≡ statuses.Done → SavesImage job before after
  pub kept : s ≢ statuses.Done → after.store.files ≡ before.store.files
  pub saves : s ≢ statuses.WriteFault → after.store.save_faults ≡ before.store.save_faults

abbrev pub StoresBy : JobKind → Job → Seen → Seen → Status → Type 0
StoresBy kinds.Build job before after s = SavesWhereDone job before after s
StoresBy other job before after s = KeepsFiles before after

-- `build` couldn't save: the count of save faults rose, and neither output took anything.
pub record IsUnsaved (job : Job) (before after : Seen) : Type 0 where
  pub kind : job.kind ≡ kinds.Build
  pub rose : Rose before.store.save_faults after.store.save_faults
  pub out : after.out ≡ before.out
  pub err : after.err ≡ before.err

-- One call of `save`, and how it was told: the file of this name holds the bytes, and nothing was told; or it failed; or
-- memory ran out.
pub data IsSaved (name bytes : List ℕ) (files files' : Option Files) (faults faults' : ℕ) (err err' : SinkSeen) (s : Status) : Type 0 where
  done : s ≡ statuses.Done → files' ≡ option_map (λ fs. insert fs name bytes) files → faults' ≡ faults → err' ≡ err
      → IsSaved name bytes files files' faults faults' err err' s
  failed : s ≡ statuses.WriteFault → files' ≡ files → Rose faults faults' → err' ≡ err
      → IsSaved name bytes files files' faults faults' err err' s
  no_memory : files' ≡ files → faults' ≡ faults → IsPut statuses.Memory memory_reply.line err err' s
      → IsSaved name bytes files files' faults faults' err err' s
