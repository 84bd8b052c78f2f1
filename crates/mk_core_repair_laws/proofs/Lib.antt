mod SameFiles
mod OneSurvey
mod OneRepair
