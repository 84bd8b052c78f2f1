-- What steps are asked is what allows them.
use Rattle.mk_build.specs.World.{Idle, Busy}
use Rattle.mk_build.specs.Steps.{Edit, Make, Begin, Look, Put, End, Break, Pass, Stop, EndMake}
use Rattle.mk_world.specs.StepLaws.{AllowedWhereAllHolds}

pub allowed_as : AllowedWhereAllHolds
allowed_as g s (Idle d) (Edit f c) = (λ a. (a.0, (a.1, tt)), λ h. (h.0, h.1.0))
allowed_as g s (Idle d) (Make jobs goals) = (λ a. (a.0, (a.1, tt)), λ h. (h.0, h.1.0))
allowed_as g s (Idle d) (Begin t) = (λ a. absurd a, λ h. h.0)
allowed_as g s (Idle d) (Look t f) = (λ a. absurd a, λ h. h.0)
allowed_as g s (Idle d) (Put t f c) = (λ a. absurd a, λ h. h.0)
allowed_as g s (Idle d) (End t) = (λ a. absurd a, λ h. h.0)
allowed_as g s (Idle d) (Break t removed) = (λ a. absurd a, λ h. h.0)
allowed_as g s (Idle d) (Pass n) = (λ a. absurd a, λ h. h.0)
allowed_as g s (Idle d) Stop = (λ a. absurd a, λ h. h.0)
allowed_as g s (Idle d) EndMake = (λ a. absurd a, λ h. h.0)
allowed_as g s (Busy m d) (Edit f c) = (λ a. absurd a, λ h. h.0)
allowed_as g s (Busy m d) (Make jobs goals) = (λ a. absurd a, λ h. h.0)
allowed_as g s (Busy m d) (Begin t) = (λ a. ((a.0, a.1), (a.2, tt)), λ h. (h.0.0, h.0.1, h.1.0))
allowed_as g s (Busy m d) (Look t f) = (λ a. (a.0, (a.1, tt)), λ h. (h.0, h.1.0))
allowed_as g s (Busy m d) (Put t f c) = (λ a. (a.0, (a.1, (a.2, tt))), λ h. (h.0, h.1.0, h.1.1.0))
allowed_as g s (Busy m d) (End t) = (λ a. (a.runs, ((a.seen, a.put), (a.agrees, tt))), λ h. record { runs = h.0; seen = h.1.0.0; put = h.1.0.1; agrees = h.1.1.0 })
allowed_as g s (Busy m d) (Break t removed) = (λ a. (a.0, (a.1, tt)), λ h. (h.0, h.1.0))
allowed_as g s (Busy m d) (Pass n) = (λ a. (a.0, (a.1, tt)), λ h. (h.0, h.1.0))
allowed_as g s (Busy m d) Stop = (λ a. (a, tt), λ h. h.0)
allowed_as g s (Busy m d) EndMake = (λ a. (a, tt), λ h. h.0)
