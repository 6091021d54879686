-- What a status tells of the run that ended with it.
use Rattle.std.proofs.Common.{rules, inl, inr, ℕ, List, Option, Err, sym, subst}
use Rattle.kb_catalog_text.specs.declared.fault.TextFault.TheVariants as text
use Rattle.kb_runs.specs.declared.run_stop.RunStop.TheVariants.{Input, Output, Memory, LineTooLong}
use Rattle.kb_runs.specs.declared.run_stop.RunStop.TheVariants.{InputTooLong}
use Rattle.kb_runs.specs.declared.stop.Stop.{Stop}
use Rattle.kb_runs.specs.declared.stop.Stop.TheVariants.{Words, Run, Disk, Journal, Text, Market}
use Rattle.kb_runs.specs.declared.stop.Stop.TheVariants.{NotEmpty, Full}
use Rattle.kb_runs.specs.Endings.{Closes, NeedsMemory, stop_status}
use Rattle.kb_runs.specs.Statuses.{IsStatus, Tells}

-- the status of what stopped a run tells it
tells-own : (stop : Stop) → Tells (stop_status stop) (Err stop)
tells-own Words = search rules
tells-own (Run Input) = search rules
tells-own (Run Output) = search rules
tells-own (Run Memory) = search rules
tells-own (Run LineTooLong) = search rules
tells-own (Run InputTooLong) = search rules
tells-own Disk = search rules
tells-own (Journal lane at) = search rules
tells-own (Text text.NotToml) = search rules
tells-own (Text (text.Missing key)) = search rules
tells-own (Text (text.WrongKind key)) = search rules
tells-own (Text (text.Unknown key)) = search rules
tells-own (Text (text.Rule rule place)) = search rules
tells-own (Text text.Memory) = search rules
tells-own (Text (text.TooLong count)) = search rules
tells-own Market = search rules
tells-own (NotEmpty lane) = search rules
tells-own Full = search rules

-- the status of an output that failed tells no more than that the run was stopped
tells-output : (stop : Stop) → Tells (stop_status (Run Output)) (Err stop)
tells-output stop = search rules

-- the status of want of memory tells that the run ran out of it, or that its last output line did
tells-memory : (stop : Stop) → NeedsMemory stop → Tells (stop_status (Run Memory)) (Err stop)
tells-memory stop needs = search rules

module _ (stop : Stop) (status : ℕ) (written written_after : Option (List ℕ)) where
  -- the status of a run that was stopped
  pub closes-tells : Closes (Err stop) status written written_after → Tells status (Err stop)
  closes-tells (inl (inl (is, line))) = subst (λ s. Tells s (Err stop)) (sym is) (tells-own stop)
  closes-tells (inl (inr (is, part))) = subst (λ s. Tells s (Err stop)) (sym is) (tells-output stop)
  closes-tells (inr (needs, inl (is, line))) = subst (λ s. Tells s (Err stop)) (sym is)
      (tells-memory stop needs)
  closes-tells (inr (needs, inr (is, part))) = subst (λ s. Tells s (Err stop)) (sym is) (tells-output stop)

  -- it is that of some stop
  pub closes-status : Closes (Err stop) status written written_after → IsStatus status
  closes-status (inl (inl (is, line))) = inr (stop, is)
  closes-status (inl (inr (is, part))) = inr (Run Output, is)
  closes-status (inr (needs, inl (is, line))) = inr (Run Memory, is)
  closes-status (inr (needs, inr (is, part))) = inr (Run Output, is)
