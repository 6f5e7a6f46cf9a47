mod Created
