-- The words of what is proved of files, here and in compare.
use Rattle.std.specs.Prelude.{List, [], ◌∷◌}
use Rattle.std.specs.Int.{w32}
use Rattle.std.proofs.Common.{SFits}
use Rattle.instants.specs.Instants.{IsAccepted}
use Rattle.record.specs.declared.Record.{Record}

-- something holds of every element of a list
abbrev pub Each : {A : Type 0} → (A → Type 0) → List A → Type 0
Each P [] = Unit {0}
Each P (x ∷ xs) = P x × Each P xs

-- a record's instant is accepted
abbrev pub AcceptedRecord : Record → Type 0
AcceptedRecord r = IsAccepted r.day r.micros

-- its day number and its three numbers are of 32 bits
pub record Fitting (r : Record) : Type 0 where
  pub day : SFits w32 r.day
  pub ut1 : SFits w32 r.ut1
  pub lod : SFits w32 r.lod
  pub rate : SFits w32 r.rate
