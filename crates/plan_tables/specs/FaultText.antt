-- How a fault of a plan is written: its name, and what it is about.
use Rattle.std.specs.Prelude.{ℕ, List, ◌++◌, codes}
use Rattle.elf64.specs.FaultName.{fault_name}
use Rattle.plan_tables.specs.Keys.{key_text}
use Rattle.plan_tables.specs.Shown.{shown}
use Rattle.plan_tables.specs.declared.fault.PlanFault.{PlanFault}
use Rattle.plan_tables.specs.declared.fault.PlanFault.TheVariants as faults

abbrev pub fault_text : PlanFault → List ℕ
fault_text faults.Toml = codes "Toml"
fault_text (faults.Missing key) = codes "Missing " ++ key_text key
fault_text (faults.Unknown text) = codes "Unknown " ++ shown text
fault_text (faults.Shape key) = codes "Shape " ++ key_text key
fault_text (faults.Range key) = codes "Range " ++ key_text key
fault_text faults.Name = codes "Name"
fault_text faults.Below = codes "Below"
fault_text (faults.Image fault) = codes "Image " ++ fault_name fault
fault_text faults.File = codes "File"
fault_text faults.Memory = codes "Memory"
