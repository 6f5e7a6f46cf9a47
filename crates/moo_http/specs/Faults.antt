-- The fault of a connection whose request wasn't read.
use Rattle.moo_http_request.specs.declared.fault.ReadFault.{ReadFault}
use Rattle.moo_http_request.specs.declared.fault.ReadFault.TheVariants as read
use Rattle.moo_http.specs.{declared.fault.ServeFault.{ServeFault}, declared.fault.ServeFault.TheVariants.{Read, OutOfMemory}}

-- the fault of a connection, by the fault of reading its request
abbrev pub fault_of : ReadFault → ServeFault
fault_of read.Read = Read
fault_of read.OutOfMemory = OutOfMemory
