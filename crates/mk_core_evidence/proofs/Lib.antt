mod FindingPlans
