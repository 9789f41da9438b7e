use Rattle.std.proofs.Common.{refl}
use Rattle.slot_journal.proofs.opening.fault_for.Goals as goal

pub returns-in-TooSmall : goal.returns-in-TooSmall
returns-in-TooSmall c = rw (c.in-TooSmall.is) refl

pub returns-in-NotOurs : goal.returns-in-NotOurs
returns-in-NotOurs c = rw (c.in-NotOurs.is) refl

pub returns-in-SettingsChanged : goal.returns-in-SettingsChanged
returns-in-SettingsChanged c = rw (c.in-SettingsChanged.is) refl

pub returns-in-DiskFault : goal.returns-in-DiskFault
returns-in-DiskFault c = rw (c.in-DiskFault.is) refl

pub returns-in-NoMemory : goal.returns-in-NoMemory
returns-in-NoMemory c = rw (c.in-NoMemory.is) refl
