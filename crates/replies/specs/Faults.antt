-- What stops a command where a call on the outside was not done.
use Rattle.outside.specs.declared.fault.FileFault.{FileFault}
use Rattle.outside.specs.declared.fault.FileFault.TheVariants as fault
use Rattle.replies.specs.declared.stop.Stop.{Stop}
use Rattle.replies.specs.declared.stop.Stop.TheVariants as stops

-- a read
abbrev pub read_stop : FileFault → Stop
read_stop fault.Failed = stops.ReadFault
read_stop fault.NoMemory = stops.NoMemory

-- an append, a replace or a print
abbrev pub write_stop : FileFault → Stop
write_stop fault.Failed = stops.WriteFault
write_stop fault.NoMemory = stops.NoMemory
