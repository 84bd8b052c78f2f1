-- Faults of the lower crates as those of a request.
use Rattle.std.specs.Prelude.{Bool, true, false, if◌then◌else◌}
use Rattle.mk_cert.specs.declared.fault.CertFault.{CertFault}
use Rattle.mk_cert.specs.declared.fault.CertFault.TheVariants as cert
use Rattle.mk_foot.specs.declared.fault.FootFault.{FootFault}
use Rattle.mk_foot.specs.declared.fault.FootFault.TheVariants as foot
use Rattle.mk_infer.specs.declared.fault.InferFault.{InferFault}
use Rattle.mk_infer.specs.Steps as inferring
use Rattle.mk_read.specs.declared.fault.ReadFault.{ReadFault}
use Rattle.mk_read.specs.Steps as reading
use Rattle.mk_cert_text.specs.declared.fault.CertTextFault.{CertTextFault}
use Rattle.mk_cert_text.specs.declared.fault.CertTextFault.TheVariants as ways
use Rattle.mk_world.specs.declared.plan.PlanFault.{PlanFault}
use Rattle.mk_world.specs.declared.plan.PlanFault.TheVariants as plan
use Rattle.mk_core_text.specs.declared.fault.Fault.{Fault}
use Rattle.mk_core_text.specs.declared.fault.Fault.TheVariants.{Read, Infer, Foot, Plan, Certificate, Verify, Memory}

-- The fault, or the fault that it wraps, is out of memory.
abbrev pub is_out_of_memory : Fault → Bool
is_out_of_memory Memory = true
is_out_of_memory (Read fault) = reading.is_out_of_memory fault
is_out_of_memory (Infer fault) = inferring.is_out_of_memory fault
is_out_of_memory (Foot foot.Memory) = true
is_out_of_memory (Plan plan.Memory) = true
is_out_of_memory (Certificate ways.Memory) = true
is_out_of_memory (Verify cert.Memory) = true
is_out_of_memory fault = false

-- The fault of a makefile as one of a request, with out of memory as `Memory`.
abbrev pub of_read : ReadFault → Fault
of_read fault = if reading.is_out_of_memory fault then Memory else Read fault

-- The fault of goals, of their graph or of commands as one of a request, with out of memory as
-- `Memory`.
abbrev pub of_infer : InferFault → Fault
of_infer fault = if inferring.is_out_of_memory fault then Memory else Infer fault

-- The fault of footprints as one of a request, with out of memory as `Memory`.
abbrev pub of_foot : FootFault → Fault
of_foot foot.Memory = Memory
of_foot fault = Foot fault

-- The fault of a plan as one of a request, with out of memory as `Memory`.
abbrev pub of_plan : PlanFault → Fault
of_plan plan.Memory = Memory
of_plan fault = Plan fault

-- The fault of a certificate's text as one of a request, with out of memory as `Memory`.
abbrev pub of_certificate : CertTextFault → Fault
of_certificate ways.Memory = Memory
of_certificate fault = Certificate fault

-- Why a certificate isn't accepted, as a fault of a request, with out of memory as `Memory`.
abbrev pub of_verify : CertFault → Fault
of_verify cert.Memory = Memory
of_verify fault = Verify fault
