mod OneAnswer
mod OneVerdict
mod OneSimulation
mod RefusedAlike
mod PlainWorld
mod FirstDisk
mod EvidenceRuns
mod Verified
