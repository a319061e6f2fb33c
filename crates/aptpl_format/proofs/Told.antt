-- What an answer says of its value, or of its fault, and what follows from that.
use Rattle.std.specs.Prelude.{Result, Ok, Err}
use Rattle.std.specs.Result.{IfOk, IfErr, OnOk}
use Rattle.aptpl_format.specs.declared.fault.OpenFault.{OpenFault}
use Rattle.aptpl_format.specs.declared.fault.OpenFault.TheVariants.{NotARegFile, Version, DeviceFailed, NoMemory}
use Rattle.aptpl_format.specs.Reads.{IsRefusalOf}

-- what is refused for want of one thing is refused for want of another that asks for it
pub refused_too : (fault : OpenFault) (A B : Type 0) → (A → B) → IsRefusalOf fault A → IsRefusalOf fault B
refused_too NotARegFile A B f a = f a
refused_too Version A B f a = a
refused_too DeviceFailed A B f a = a
refused_too NoMemory A B f a = a

pub if_err_too : {T F : Type 0} (r : Result T F) (P Q : F → Type 0) → ((e : F) → P e → Q e) → IfErr r P → IfErr r Q
if_err_too (Ok t) P Q f p = p
if_err_too (Err e) P Q f p = f e p
